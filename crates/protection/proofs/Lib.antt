pub mod Walk
pub mod Agree
pub mod DelayNames
pub mod InRange
pub mod Ladder
pub mod Shared
