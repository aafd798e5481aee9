-- What is left of the codes are all below where all are.
use mathlib.Core.Path.{◌≡◌}
use lib.ListN.{length}
use Rattle.format.specs.Dictionary.{all_below}
use Rattle.places.specs.Blocks.{to_come}
use Rattle.dictionary.proofs.reading.codes_below.Given as goal

abbrev pub invariant-loop-n : goal.invariant-loop-n
invariant-loop-n l = all_below l.entries (to_come l.codes) ≡ all_below l.entries (to_come l.initial.codes)

abbrev pub decreases-loop-n : goal.decreases-loop-n
decreases-loop-n l = length (to_come l.codes)
