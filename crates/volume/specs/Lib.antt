pub mod Volume
pub mod Guarantee
pub mod Examples
