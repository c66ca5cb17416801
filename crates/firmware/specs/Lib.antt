pub mod Handed
pub mod JobBalance
pub mod JobCells
pub mod JobWired
pub mod Found
