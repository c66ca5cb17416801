pub mod Agree
pub mod Crate
pub mod Gain
