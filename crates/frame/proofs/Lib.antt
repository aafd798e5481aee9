pub mod Bounds
pub mod Body
