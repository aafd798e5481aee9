-- `pass::walk` meets its contract: what is held and what is still to come are the whole.
use Rattle.stats.proofs.Walking.{Walked}
use Rattle.stats.proofs.pass.walk.Given as goal

abbrev pub invariant-loop-i : goal.invariant-loop-i
invariant-loop-i l = Walked l.fn.column.values.now l.i l.last l.values l.runs l.steps
