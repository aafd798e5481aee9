-- As many values are to come as are left.
use mathlib.Core.Path.{sym}
use Rattle.format.proofs.Codecs.Counts.{length-packed_values}
use Rattle.places.specs.Blocks.{to_come}
use Rattle.places.proofs.block.Blocks.left.Goals as goal

pub returns : goal.returns
unfolding to_come
returns c = let s = c.args.self.now in sym (length-packed_values s.chunk.now s.at s.width.bits s.left)
