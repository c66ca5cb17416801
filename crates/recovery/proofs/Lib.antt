mod Forms
pub mod Left
mod Calibrated
pub mod Cut
pub mod Whole
pub mod Again
pub mod Asked
pub mod EachRegister
pub mod Makes
pub mod OfBytes
pub mod OnModel
pub mod SameLog
pub mod Demand3
pub mod Feigned
pub mod Instance
