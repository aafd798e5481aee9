pub mod Computing
pub mod Stars
pub mod Refusals
pub mod Worked
