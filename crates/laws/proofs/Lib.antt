pub mod Inverse
pub mod Keys
pub mod Lists
pub mod Over
pub mod Tests
pub mod Variants
