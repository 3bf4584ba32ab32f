pub mod Lent
pub mod Reads
pub mod Table
