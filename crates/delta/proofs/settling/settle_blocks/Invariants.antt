-- What is left to be asked is the whole.
use mathlib.Core.Path.{◌≡◌}
use Prim.Native.Nat.{◌-◌, ◌≤◌}
use Rattle.format.specs.Delta.{block_count, validate_blocks}
use Rattle.delta.proofs.settling.settle_blocks.Given as goal

abbrev pub invariant-loop-done : goal.invariant-loop-done
invariant-loop-done l = (l.done ≤ l.deltas)
    × (validate_blocks l.chunk l.size l.read.end (block_count l.size (l.deltas - l.done)) (l.deltas - l.done) l.read.padded
    ≡ validate_blocks l.chunk l.size l.fn.before.end (block_count l.size l.deltas) l.deltas l.fn.before.padded)
