pub mod Parts
pub mod Renewals
