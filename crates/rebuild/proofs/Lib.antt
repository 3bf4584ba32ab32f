pub mod Limits
pub mod Stepping
pub mod Phases
pub mod Tabled
