pub mod EveryFunction
