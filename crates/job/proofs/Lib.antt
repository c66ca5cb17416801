pub mod Accepted
pub mod ByTests
pub mod Places
pub mod Agree
pub mod Codes
pub mod Example
pub mod Tested
