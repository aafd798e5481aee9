-- `bench_write_uvarints` meets its contract: the bytes stored, then those of the row of the values left, are the whole row.
use Prim.Native.Nat.{◌-◌}
use lib.ListN.{length, drop}
use Rattle.bench.specs.Rows.{row_bytes}
use Rattle.bench.proofs.Filled.{Filled}
use Rattle.bench.proofs.bench_write_uvarints.Given as goal

abbrev pub invariant-loop-value : goal.invariant-loop-value
invariant-loop-value l = Filled (row_bytes l.values (length l.initial.out)) l.initial.out l.out l.at (row_bytes (drop l.value-index l.values) (length l.initial.out - l.at))
