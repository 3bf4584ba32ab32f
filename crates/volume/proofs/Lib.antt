pub mod Examples
pub mod Cases
pub mod Each
pub mod Steps
