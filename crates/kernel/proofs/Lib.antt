pub mod Horner
pub mod Tiles
pub mod Highest
pub mod Columns
pub mod Mixed
