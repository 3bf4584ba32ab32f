pub mod Clips
pub mod Decimal
pub mod Reading
pub mod Writing
pub mod Clipping
