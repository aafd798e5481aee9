-- The laws that the proofs of `keys` instantiate, and those that its callers cite.
pub mod Filling
pub mod Bodies
