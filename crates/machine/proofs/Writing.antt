-- The calls of specs/Writing keep the invariant: `X-good` for each call X, on columns.
pub mod Swap
pub mod Add
pub mod Check
pub mod Sweep
