pub mod Numbers
pub mod Codecs
pub mod Lengths
pub mod Plan
pub mod Third
pub mod Samples
