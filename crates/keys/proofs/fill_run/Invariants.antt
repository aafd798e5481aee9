-- What is left of the copies is one and then the others.
use Prim.Native.Nat.{◌+◌, ◌-◌, ◌≤◌}
use lib.ListN.{replicate}
use Rattle.format.proofs.Numbers.Stores.{Storing}
use Rattle.keys.proofs.fill_run.Given as goal

abbrev pub invariant-loop-i : goal.invariant-loop-i
invariant-loop-i l = (l.i ≤ l.times) × Storing (replicate l.times l.key) l.initial.column l.at (replicate (l.times - l.i) l.key) l.column (l.at + l.i)
