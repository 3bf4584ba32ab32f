pub mod Code
pub mod Decode
pub mod View
pub mod Bits
pub mod Determined
pub mod Calls
pub mod Demand2
