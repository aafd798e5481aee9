-- What is left to be asked is the whole.
use mathlib.Core.Path.{◌≡◌}
use Prim.Native.Nat.{◌-◌}
use Rattle.format.specs.Runs.{validate_runs}
use Rattle.runs.proofs.reading.settle_runs.Given as goal

abbrev pub invariant-loop : goal.invariant-loop
invariant-loop l = validate_runs l.chunk l.read.end (l.n - l.counter) l.left l.read.padded ≡ validate_runs l.chunk l.fn.before.end l.n l.count l.fn.before.padded
