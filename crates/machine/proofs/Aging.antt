-- A tick, of specs/Aging, keeps the invariant: `tick-good`, on columns.
pub mod Tick
