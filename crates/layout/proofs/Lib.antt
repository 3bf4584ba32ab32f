pub mod Ranges
pub mod Homes
pub mod Cards
