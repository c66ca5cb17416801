pub mod Registers
pub mod Conversion
pub mod Trips
pub mod Crate
