pub mod Choice
pub mod Over
