pub mod Clipping
pub mod Clips
pub mod Reading
