pub mod Begins
pub mod Limits
pub mod Walking
pub mod Within
