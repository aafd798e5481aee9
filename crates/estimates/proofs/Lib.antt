pub mod Parts
pub mod Surveying
