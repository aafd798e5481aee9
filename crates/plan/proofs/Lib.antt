pub mod Choosing
pub mod Literals
pub mod Surveying
