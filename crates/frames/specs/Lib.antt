pub mod Frames
pub mod Put
