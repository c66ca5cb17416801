pub mod Agree
pub mod Figures
pub mod Keeps
pub mod Sizes
pub mod Soundly
pub mod Speaks
mod Zero
