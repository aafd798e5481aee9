-- The questions of a packed body are its own.
use mathlib.Core.Path.{ap, ◌∙◌}
use Rattle.format.specs.Parts.{settled}
use Rattle.bitpacked.proofs.Body.{extent-asked}
use Rattle.bitpacked.proofs.BitPackedCodec.settle_body.Goals as goal

pub returns : goal.returns
returns c room = ap (settled _ _ _ room) (rw c.before-2.ensures at c.settle_packed.ensures ∙ extent-asked _ _ _ _ c.args.body.few)
