pub mod Records
pub mod Image
pub mod Reading
pub mod Claims
pub mod Places
