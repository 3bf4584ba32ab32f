pub mod Ends
pub mod Kept
