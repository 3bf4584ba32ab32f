pub mod Volumes
pub mod Entry
