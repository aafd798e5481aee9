pub mod Fields
pub mod Folds
pub mod Walking
pub mod TooMany
pub mod Answering
pub mod Recording
