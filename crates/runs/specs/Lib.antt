-- What the contracts of `runs` cite beside the definitions of `format`.
pub mod RunAt
