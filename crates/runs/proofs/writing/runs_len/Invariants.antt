-- The bytes of the runs measured, then those of the runs that are left, are the runs'.
use mathlib.Core.Path.{◌≡◌}
use Prim.Native.Nat.{◌+◌}
use lib.ListN.{length}
use Rattle.format.specs.Runs.{runs, run_bytes}
use Rattle.runs.proofs.writing.runs_len.Given as goal

abbrev pub invariant-loop-key : goal.invariant-loop-key
invariant-loop-key l = l.bytes + length (run_bytes (runs l.key-iterator.0.now)) ≡ length (run_bytes (runs l.fn.column.values.now))
