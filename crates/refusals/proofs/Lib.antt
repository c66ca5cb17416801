pub mod OneToOne
pub mod Values
