pub mod Asked
pub mod Parts
pub mod Taken
