mod Bytes
mod Calibration
mod Changing
mod Short
mod Shows
mod Stages
pub mod Commands
pub mod Demand2
pub mod OnChip
pub mod Pack
pub mod Reading
pub mod Balancing
