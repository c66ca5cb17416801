pub mod Calls
pub mod Feigned
pub mod Fine
