pub mod Adding
pub mod Completing
pub mod Ready
