pub mod Gaps
pub mod Measured
pub mod Numbers
