pub mod Groups
pub mod View
