pub mod Agree
pub mod BothLists
pub mod ByRegisters
mod Extremes
pub mod Outcomes
pub mod Spread
mod AllInputs
mod Taken
mod Told
