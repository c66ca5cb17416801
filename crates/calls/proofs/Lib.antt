pub mod Accepted
pub mod Agree
mod Items
pub mod Rows
pub mod Short
pub mod Steps
