pub mod Agree
mod ByLink
