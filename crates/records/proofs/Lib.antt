pub mod Clients
pub mod Limits
pub mod Refusals
pub mod Steps
