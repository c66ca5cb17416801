pub mod Agree
mod Digits
pub mod Exactly
mod Masked
pub mod Places
pub mod RoundTrip
mod Rules
mod Shifted
