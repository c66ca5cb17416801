pub mod Agree
pub mod Ranged
pub mod Positions
