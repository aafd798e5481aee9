pub mod Rows
pub mod Settling
pub mod Writing
pub mod Reading
