-- `bench_read_uvarints` meets its contract: the values stored, then those of the row from `pos` on, are the whole row.
use Prim.Native.Nat.{◌-◌}
use lib.ListN.{length}
use Rattle.bench.specs.Rows.{row_values}
use Rattle.bench.proofs.Filled.{Filled}
use Rattle.bench.proofs.bench_read_uvarints.Given as goal

abbrev pub invariant-loop-i : goal.invariant-loop-i
invariant-loop-i l = Filled (row_values l.bytes 0 (length l.initial.out)) l.initial.out l.out l.i (row_values l.bytes l.pos (length l.initial.out - l.i))

abbrev pub decreases-loop-i : goal.decreases-loop-i
decreases-loop-i l = length l.initial.out - l.i
