pub mod Agree
mod Found
pub mod Packs
pub mod Rising
pub mod Rows
pub mod Undone
