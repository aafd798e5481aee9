pub mod ThirdDemand
pub mod Scratch
pub mod Buffers
