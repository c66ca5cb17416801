pub mod Between
pub mod Bytes
pub mod Casts
pub mod Order
pub mod Signed
