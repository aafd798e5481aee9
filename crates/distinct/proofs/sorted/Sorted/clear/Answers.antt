-- `clear` meets its contract: what it keeps is the buffer.
use mathlib.Core.Path.{refl}
use Rattle.format.specs.Answers.{stored}
use Rattle.distinct.proofs.sorted.Sorted.clear.Goals as goal

pub returns : goal.returns
unfolding stored
returns c = record { same_buffer = refl; buffer = refl; count = refl }
