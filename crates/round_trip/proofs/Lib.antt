pub mod Writing
pub mod Ends
pub mod Claims
