pub mod Decoding
pub mod Filling
pub mod Mapped
pub mod Packing
pub mod Placing
pub mod Taking
