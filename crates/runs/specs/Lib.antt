pub mod Runs
pub mod Played
pub mod Entered
pub mod Volume
pub mod VolumeEntered
