-- `fill_few` meets its contract: each turn holds the distinct values so far.
use lib.ListN.{take}
use Rattle.format.specs.Distinct.{distinct}
use Rattle.distinct.specs.Sorted.{Becomes}
use Rattle.distinct.proofs.fill.fill_few.Given as goal

abbrev pub invariant-loop-key : goal.invariant-loop-key
invariant-loop-key l = Becomes l.initial.held l.held (distinct (take l.key-index l.column))
