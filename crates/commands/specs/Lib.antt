pub mod Registers
pub mod Answers
pub mod Codes
pub mod Commands
