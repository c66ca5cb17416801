pub mod Sets
pub mod Rules
pub mod Broken
pub mod Registers
