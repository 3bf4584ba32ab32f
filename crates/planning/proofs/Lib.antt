pub mod Ceiling
pub mod Pairs
