pub mod Transfers
pub mod Programs
pub mod Lent
pub mod Raw
pub mod Decoders
pub mod Shown
