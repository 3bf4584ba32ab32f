pub mod Shelfrun
pub mod Feeding
