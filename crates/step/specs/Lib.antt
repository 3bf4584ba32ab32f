pub mod View
pub mod Steps
pub mod Plays
pub mod Reads
