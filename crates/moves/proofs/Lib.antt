pub mod CrateList
pub mod Front
