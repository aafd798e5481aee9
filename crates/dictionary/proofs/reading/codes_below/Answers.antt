-- What is left of the codes are all below where all are.
use mathlib.Core.Path.{◌≡◌, sym, ap, ◌∙◌}
use mathlib.Core.Bool.{Bool, ◌&&◌}
use lib.ListN.{take}
use Rattle.format.specs.Dictionary.{all_below}
use Rattle.places.specs.Blocks.{to_come}
use Rattle.dictionary.proofs.Codes.{below-append}
use Rattle.dictionary.proofs.reading.codes_below.Goals.{After-block_below}
use Rattle.dictionary.proofs.reading.codes_below.Goals as goal

-- those of a block and those after it
both : (c : After-block_below)
    → all_below c.args.entries (to_come c.loop-n.codes) ≡ (c.block_below.result && all_below c.args.entries (to_come c.next.new.self))
both c =
    ap (all_below c.args.entries) c.in-Some.ensures.taken.3
    ∙ below-append c.args.entries (take c.in-Some.n c.next.new.block) (to_come c.next.new.self)
    ∙ ap (λ (b : Bool). b && all_below c.args.entries (to_come c.next.new.self)) (sym c.block_below.ensures)

pub returns-then-not-block_below : goal.returns-then-not-block_below
returns-then-not-block_below c =
    let w = (goal.at.returns-then-not-block_below c).After-block_below in
    rw (c.if-not-block_below.true, c.loop-n.invariant) at (sym (both w))

pub loop-n-preserved : goal.loop-n-preserved
loop-n-preserved c =
    let w = (goal.at.loop-n-preserved c).After-block_below in
    rw c.if-not-block_below.false at (sym (both w)) ∙ c.loop-n.invariant

pub returns : goal.returns
unfolding all_below
returns c = sym (ap (all_below c.args.entries) c.in_default.ensures.taken) ∙ c.loop-n.invariant
