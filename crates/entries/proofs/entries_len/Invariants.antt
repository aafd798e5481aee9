-- The bytes measured, then those of the numbers that are left, are the entries'.
use mathlib.Core.Path.{◌≡◌}
use Prim.Native.Nat.{◌+◌}
use Rattle.format.specs.Estimates.{entries_len}
use Rattle.entries.specs.Gaps.{to_come}
use Rattle.entries.proofs.Walking.{len_of}
use Rattle.entries.proofs.entries_len.Given as goal

abbrev pub invariant-loop-number : goal.invariant-loop-number
invariant-loop-number l = l.sum + len_of (to_come l.number-iterator) ≡ entries_len l.entries
