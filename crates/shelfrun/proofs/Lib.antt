pub mod Turns
pub mod Bytes
pub mod Example
pub mod Played
