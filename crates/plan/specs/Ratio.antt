-- A quotient as f64.
use Rattle.std.specs.Prelude.{ℕ, cond, ◌==◌, Float}
use Rattle.std.specs.Float.{binary64}
use Rattle.std.specs.Float.Ieee.{div}
use Rattle.format.specs.Plan.{as_float}

-- n by d, or `none` where d is 0: the form of a run density and of an estimated ratio
abbrev pub quotient_or : ℕ → ℕ → Float → Float
quotient_or n d none = cond (d == 0) none (div binary64 (as_float n) (as_float d))
