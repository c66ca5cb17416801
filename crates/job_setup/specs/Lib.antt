pub mod JobInit
