-- A failure and a stop, of specs/Failure, keep the invariant: `X-good` for each call X, on columns.
pub mod Fail
pub mod Stop
