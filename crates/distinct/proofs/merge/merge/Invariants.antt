-- `merge` meets its contract: each turn keeps `Merging`.
use Rattle.distinct.proofs.Merging.{Merging}
use Rattle.distinct.proofs.merge.merge.Given as goal

abbrev pub invariant-loop-j : goal.invariant-loop-j
invariant-loop-j l = Merging l.initial.slots l.held l.waiting l.slots l.i l.j
