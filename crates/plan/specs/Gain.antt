-- The gain that a level asks for.
use Rattle.std.specs.Prelude.{ℕ, cond, ◌==◌, Float}
use Rattle.format.specs.Plan.{as_float, minimum_gain}

-- The Rust's `minimum_gain`: 1.0 at level 0, a gain that no length has, else as 01 has it. A plan asks it at levels 1 and above only.
unfoldable pub level_gain : ℕ → Float
level_gain level = cond (level == 0) (as_float 1) (minimum_gain level)
