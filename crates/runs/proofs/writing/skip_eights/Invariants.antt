-- Eight values that are the same take the walk eight on.
use Prim.Native.Nat.{◌-◌}
use lib.ListN.{length}
use Rattle.runs.specs.RunAt.{Running}
use Rattle.runs.proofs.writing.skip_eights.Given as goal

abbrev pub invariant-loop-end : goal.invariant-loop-end
invariant-loop-end l = Running l.values l.end

abbrev pub decreases-loop-end : goal.decreases-loop-end
decreases-loop-end l = length l.values - l.end
