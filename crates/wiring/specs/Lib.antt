pub mod Packs
pub mod Tables
pub mod Questions
pub mod Blocks
