pub mod Entries
pub mod View
