pub mod Parts
pub mod Products
pub mod Within
pub mod Renewing
