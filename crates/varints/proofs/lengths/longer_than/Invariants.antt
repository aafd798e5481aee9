-- The values counted, then those that are left, are all whose ZigZag has such a bit.
use mathlib.Core.Path.{◌≡◌}
use Prim.Native.Nat.{◌+◌, ◌≤◌}
use lib.ListN.{length, drop}
use Rattle.varints.specs.Lengths.{longer}
use Rattle.varints.proofs.lengths.longer_than.Given as goal

abbrev pub invariant-loop-value : goal.invariant-loop-value
invariant-loop-value l = (l.value-index ≤ length l.fn.column.values.now) × (l.count ≤ l.value-index) × (l.count + longer l.shift (drop l.value-index l.fn.column.values.now) ≡ longer l.shift l.fn.column.values.now)
