-- The values stored, and those still to come as far as there is room, are the whole.
use Rattle.keys.proofs.Filling.{Filling}
use Rattle.keys.proofs.fill_keys.Given as goal

abbrev pub invariant-loop : goal.invariant-loop
invariant-loop l = Filling l.lengths l.chunk l.from l.n l.initial.column l.next l.counter l.at l.column
