pub mod Blocks
pub mod Packed
pub mod Places
