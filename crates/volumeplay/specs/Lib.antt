pub mod Asking
pub mod Stripes
