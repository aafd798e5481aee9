-- `put_in` meets its contract: each turn keeps `Shifting`.
use Rattle.distinct.proofs.Shifting.{Shifting}
use Rattle.distinct.proofs.sorted.put_in.Given as goal

abbrev pub invariant-loop-i : goal.invariant-loop-i
invariant-loop-i l = Shifting l.initial.slots l.at l.held l.slots l.i
