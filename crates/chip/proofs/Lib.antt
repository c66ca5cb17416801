pub mod Adequate
pub mod Agree
mod Answering
pub mod Answers
pub mod Asks
pub mod Devices
pub mod Example
pub mod Fed
pub mod FirstPart
pub mod Honest
pub mod InStep
pub mod Live
pub mod Logged
pub mod Logs
pub mod Makes
pub mod NotCut
pub mod Quits
pub mod Raws
pub mod RegisterBytes
pub mod Shows
pub mod Status
mod Steps
pub mod Stored
mod Takes
pub mod TapeBytes
pub mod Uncut
pub mod Untouched
pub mod Wires
