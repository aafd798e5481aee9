-- The laws that the proofs of `plain` cite.
pub mod Turns
pub mod Chunks
