pub mod Combine
pub mod Working
