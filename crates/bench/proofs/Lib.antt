pub mod Agree
pub mod OnRecord
