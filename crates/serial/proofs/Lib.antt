pub mod Rows
pub mod Slots
pub mod Phases
