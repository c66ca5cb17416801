pub mod Steps
pub mod Ranges
pub mod Rows
pub mod Scd
pub mod Ocd
pub mod Answers
pub mod Delays
pub mod Inside
