-- `raise` meets its contract: each turn keeps `Raised`.
use Rattle.distinct.specs.Merge.{Raised}
use Rattle.distinct.proofs.merge.raise.Given as goal

abbrev pub invariant-loop-i : goal.invariant-loop-i
invariant-loop-i l = Raised l.initial.slots l.from l.waiting l.slots l.i
