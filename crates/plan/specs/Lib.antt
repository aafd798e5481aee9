pub mod Gain
pub mod Ratio
pub mod Told
