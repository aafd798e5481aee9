pub mod Summed
pub mod There
pub mod Written
