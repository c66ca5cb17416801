pub mod Devices
pub mod Live
pub mod Chip
pub mod OnChip
pub mod Answering
pub mod Inside
