-- `search` meets its contract: each turn keeps `Narrowing`.
use Prim.Native.Nat.{◌<◌}
use Rattle.distinct.proofs.Searching.{Narrowing}
use Rattle.distinct.proofs.search.Given as goal

abbrev pub invariant-loop-left : goal.invariant-loop-left
invariant-loop-left l = (l.left < 64) × Narrowing l.values l.key l.low l.left

abbrev pub decreases-loop-left : goal.decreases-loop-left
decreases-loop-left l = l.left
