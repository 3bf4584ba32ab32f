pub mod Items
pub mod Playing
pub mod Records
pub mod Shapes
