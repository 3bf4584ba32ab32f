pub mod Xor
pub mod Tables
pub mod Laws
pub mod Ring
pub mod Sum
