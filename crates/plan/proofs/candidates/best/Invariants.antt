-- At every turn the best of the candidates so far, with those that are left, gives the best of all.
use Rattle.plan.proofs.Choosing.{BestSoFar}
use Rattle.plan.proofs.candidates.best.Given as goal

abbrev pub invariant-loop-encoding : goal.invariant-loop-encoding
invariant-loop-encoding l = BestSoFar l.estimates l.found l.encoding-index
