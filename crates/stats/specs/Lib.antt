pub mod Pass
pub mod Told
