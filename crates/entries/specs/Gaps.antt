-- The numbers that a walk over a dictionary's entries has left.
use Rattle.std.specs.Prelude.{ℕ, List}
use Rattle.entries.specs.Numbers.{numbers_after}
use Rattle.entries.specs.declared.gap.Gaps.{Gaps}

unfoldable pub to_come : Gaps → List ℕ
to_come g = numbers_after g.last g.rest.now
