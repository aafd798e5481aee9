-- The runs that were begun, and those still to end, are one more than all: the one at hand is both.
use mathlib.Core.Path.{◌≡◌}
use Prim.Native.Nat.{◌+◌}
use lib.ListN.{length}
use Rattle.format.specs.Runs.{runs}
use Rattle.runs.proofs.Counts.{left}
use Rattle.runs.proofs.writing.count_runs.Given as goal

abbrev pub invariant-loop-i : goal.invariant-loop-i
invariant-loop-i l = l.count + left l.column l.i ≡ length (runs l.column) + 1
