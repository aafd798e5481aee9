-- The least and the greatest value of what was walked over and what is left are the column's (`Bounded`).
use Rattle.frame.proofs.Bounds.{Bounded}
use Rattle.frame.proofs.writing.fit_of.Given as goal

abbrev pub invariant-loop-value : goal.invariant-loop-value
invariant-loop-value l = Bounded l.column l.least l.greatest l.value-index
