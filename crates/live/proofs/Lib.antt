mod Small
pub mod Calls
