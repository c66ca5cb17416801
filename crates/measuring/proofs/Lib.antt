pub mod Agree
pub mod Initialised
