pub mod Example
mod Made
