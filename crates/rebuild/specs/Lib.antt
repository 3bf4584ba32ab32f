pub mod Promises
pub mod Tables
