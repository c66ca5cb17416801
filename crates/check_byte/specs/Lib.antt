pub mod CheckByte
pub mod Division
pub mod Error
pub mod Inside
