-- The runs taken are stored, and those that are left are to come.
use Rattle.format.specs.Runs.{runs, run_bytes}
use Rattle.format.proofs.Numbers.Stores.{Storing}
use Rattle.runs.proofs.writing.store_runs.Given as goal

abbrev pub invariant-loop-key : goal.invariant-loop-key
invariant-loop-key l = Storing (run_bytes (runs l.column)) l.initial.out l.from (run_bytes (runs l.key-iterator.0.now)) l.out l.at
