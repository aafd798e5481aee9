-- The questions after the nine bytes are those of a packed body.
use mathlib.Core.Path.{ap, ◌∙◌}
use Rattle.format.specs.Parts.{settled}
use Rattle.frame.proofs.Body.{frame-asked}
use Rattle.frame.proofs.FrameOfReferenceCodec.settle_body.Goals as goal

pub returns : goal.returns
returns c room =
    let there = rw c.before-before.ensures at c.if-body-before.false in
    ap (settled _ _ _ room) (rw c.before-before.ensures at c.settle_packed.ensures ∙ frame-asked _ _ _ _ c.args.body.few there)
