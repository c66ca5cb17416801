pub mod Balance
pub mod Balanced
pub mod OnEveryChip
pub mod OverLimit
pub mod ReadBack
pub mod Source
pub mod StatusReset
