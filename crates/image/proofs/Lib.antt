pub mod Rows
pub mod Limits
pub mod Nodes
pub mod Clients
pub mod Sections
pub mod Theorems
pub mod Whole
pub mod Longest
