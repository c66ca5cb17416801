pub mod ForC
pub mod InitForC
pub mod SetForC
