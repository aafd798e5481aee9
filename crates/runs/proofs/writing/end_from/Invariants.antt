-- The run goes on while the values are the same.
use Rattle.runs.specs.RunAt.{Running}
use Rattle.runs.proofs.writing.end_from.Given as goal

abbrev pub invariant-loop-end : goal.invariant-loop-end
invariant-loop-end l = Running l.values l.end
