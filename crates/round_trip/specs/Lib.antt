pub mod Trip
pub mod Claim
pub mod Told
