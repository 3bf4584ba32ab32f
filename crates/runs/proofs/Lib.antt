pub mod Runs
pub mod Played
pub mod Entered
pub mod Volume
pub mod Trace
pub mod Witness
pub mod VolumeEntered
pub mod VolumeWitness
