-- The width of a number (01, "Numbers as bytes"): "The width of a number is 64 less its leading zeros: 0 for 0, 64 at most."
use Rattle.std.specs.Prelude.{ℕ, ◌-◌}
use Rattle.std.specs.Int.Count.{count_leading_zeros}

unfoldable pub width : ℕ → ℕ
width x = 64 - count_leading_zeros 64 x
