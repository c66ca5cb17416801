pub mod Word
pub mod Pack
pub mod Temperature
pub mod Inside
