-- The bytes of the values counted, then those of the values that are left, are the body's.
use Prim.Native.Nat.{◌+◌, ◌≤◌}
use mathlib.Core.Path.{◌≡◌}
use lib.ListN.{length, drop}
use Rattle.format.specs.VarintBody.{varint_body}
use Rattle.varints.proofs.lengths.len_by_values.Given as goal

abbrev pub invariant-loop-value : goal.invariant-loop-value
invariant-loop-value l = (l.value-index ≤ length l.fn.column.values.now) × (l.len + length (varint_body (drop l.value-index l.fn.column.values.now)) ≡ length (varint_body l.fn.column.values.now))
