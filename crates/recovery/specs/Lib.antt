pub mod Recovery
pub mod Runs
pub mod Demand3
