-- What the contracts of `bench` cite beside the definitions of `format`.
pub mod Rows
