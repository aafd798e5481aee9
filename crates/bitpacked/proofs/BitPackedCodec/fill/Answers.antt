-- A body that was passed lies inside the chunk, and its packed values are to come.
use mathlib.Core.Path.{ap, ◌∙◌}
use native.Mathlib.Omega.{arith}
use lib.ListN.{length}
use Rattle.std.proofs.lemmas.Grind.{common_steps}
use Rattle.format.specs.BitPacked.{bit_packed_values}
use Rattle.format.specs.Chunk.{body_values}
use Rattle.format.proofs.Codecs.Counts.{length-packed_values}
use Rattle.bitpacked.proofs.Body.{body-inside}
use Rattle.bitpacked.proofs.BitPackedCodec.fill.Goals as goal

pub new-requires : goal.new-requires
new-requires c = let inside = body-inside c.requires.passed in grind (arith, common_steps)

pub fill_by-requires : goal.fill_by-requires
fill_by-requires c = let many = ap length c.new.ensures.values ∙ length-packed_values _ _ _ _ in omega (arith, many, c.requires.room)

pub returns : goal.returns
unfolding body_values bit_packed_values
returns c = grind (arith, common_steps)
