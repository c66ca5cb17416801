pub mod Layout
pub mod Cells
