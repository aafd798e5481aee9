-- The laws that the proofs of `runs` instantiate.
pub mod RunEnds
pub mod Counts
pub mod Measures
pub mod Asks
pub mod Puts
pub mod Keys
