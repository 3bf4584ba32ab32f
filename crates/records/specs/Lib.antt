pub mod Sizes
pub mod Refusals
pub mod Node
pub mod Client
pub mod View
pub mod NodeSteps
pub mod ClientSteps
pub mod Calls
