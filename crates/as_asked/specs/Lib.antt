pub mod Reading
pub mod Tables
pub mod Seen
pub mod Init
pub mod OnChip
pub mod Commands
pub mod Balancing
pub mod Pack
