-- What the contracts of `keys` cite beside the definitions of `format`.
pub mod Rows
