-- The calls of specs/Rebuild keep the invariant: `X-good` for each call X, on columns.
pub mod Locks
pub mod Pick
pub mod Write
pub mod Settle
