pub mod Signed
pub mod ZigZag
pub mod WordDigits
pub mod Gathered
