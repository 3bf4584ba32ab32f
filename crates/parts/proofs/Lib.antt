pub mod Insides
pub mod Part
