pub mod Agree
pub mod Few
pub mod Source
pub mod Steps
pub mod Unwritten
