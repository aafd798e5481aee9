pub mod Lengths
pub mod Readable
pub mod Scans
