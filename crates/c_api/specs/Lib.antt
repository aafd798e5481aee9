-- What the contracts of `c_api` cite beside the definitions of `format`: how an answer reaches a caller in C.
pub mod Told
