pub mod Balance
pub mod Reset
