-- The laws that the proofs of `varints` cite.
pub mod Measuring
pub mod Turns
pub mod Scanning
