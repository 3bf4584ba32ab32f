pub mod Tests
pub mod Computed
pub mod Updates
pub mod Lists
