pub mod Delays
pub mod Jobs
pub mod Encoding
pub mod Seconds
pub mod Inside
