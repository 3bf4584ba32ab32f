pub mod Loops
pub mod NodeLists
pub mod Seeing
pub mod Changes
pub mod Applied
pub mod IdLists
pub mod PickedSets
