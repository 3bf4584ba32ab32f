pub mod Asking
pub mod Lines
pub mod Looking
pub mod Reading
