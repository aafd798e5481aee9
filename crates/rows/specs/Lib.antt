-- What the contracts of `rows` cite: the records as rows of numbers.
pub mod Rows
