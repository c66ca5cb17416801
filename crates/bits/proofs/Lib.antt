pub mod OneBit
pub mod Switching
pub mod Unseen
