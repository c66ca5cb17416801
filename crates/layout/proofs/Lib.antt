mod CellBytes
mod Laid
pub mod Room
