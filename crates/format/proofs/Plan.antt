pub mod Best
pub mod Rounding
pub mod Fraction
pub mod Gain
pub mod Plan
pub mod PlainPlanned
pub mod Checks
