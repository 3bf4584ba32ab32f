pub mod Weighing
pub mod Encoded
pub mod Restored
pub mod Lowest
pub mod Given
pub mod Decoded
