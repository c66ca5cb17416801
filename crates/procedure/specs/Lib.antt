pub mod Calibrate
pub mod Init
pub mod Inputs
pub mod Taking
pub mod Cells
pub mod Wired
