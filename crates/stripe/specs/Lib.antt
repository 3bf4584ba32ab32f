pub mod View
pub mod Seen
pub mod Sets
