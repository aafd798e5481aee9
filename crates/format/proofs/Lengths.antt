pub mod Parts
pub mod DeltaLength
pub mod Estimates
pub mod Exact
pub mod DeltaBound
pub mod Limits
pub mod Chunks
