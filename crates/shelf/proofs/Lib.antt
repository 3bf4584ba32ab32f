pub mod Changed
pub mod Entered
pub mod Lists
pub mod Looked
