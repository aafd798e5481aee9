pub mod Lacking
pub mod Valid
