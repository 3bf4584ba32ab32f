pub mod Laws
pub mod Items
pub mod Writable
pub mod Header
pub mod Written
pub mod Arrays
