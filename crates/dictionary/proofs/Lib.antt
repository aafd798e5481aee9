pub mod Entries
pub mod Body
pub mod Chunk
pub mod ReadEntries
pub mod Codes
pub mod Questions
pub mod Tables
