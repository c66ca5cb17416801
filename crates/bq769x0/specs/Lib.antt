pub mod Record
pub mod Registers
pub mod Figures
