pub mod PickedSets
pub mod Picking
