-- `of` meets its contract.
use mir.Facts.{to_z-of_z}
use Rattle.distinct.proofs.Inserting.{first_stored}
use Rattle.distinct.proofs.sorted.Sorted.of.Goals as goal

pub returns-clause-buffer : goal.returns-clause-buffer
returns-clause-buffer c = first_stored c.args.slots.now c.requires (to_z-of_z c.ranges.key)
