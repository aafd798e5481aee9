-- The part from the place on, or from the end, is stored in, if the bytes fit, and the whole is that part after what stood before it (`Placing`).
use mathlib.Core.Path.{◌∙◌}
use Prim.Native.Nat.{◌-◌}
use borrow.Author.Rules.{rules}
use lib.ListN.{length}
use Rattle.format.specs.Standalone.{pack_outcome, pack_answer, pack_output}
use Rattle.places.proofs.Placing.{space_is, placed_whole, end_none, end_some, packed-fits}
use Rattle.places.proofs.checked.put_packed.Goals as goal

pub returns-in_err-n-clause-value : goal.returns-in_err-n-clause-value
unfolding pack_answer
returns-in_err-n-clause-value c =
    let a = c.args in
    let told = rw (space_is a.at a.out.now c.min-front.ensures) at c.pack.ensures.0 in
    c.from_residual.ensures ∙ end_none (pack_outcome a.values.now a.width (length a.out.now - a.at)) a.at _ told c.in_err-n.ensures.value

pub returns-in_err-n-clause-out_after : goal.returns-in_err-n-clause-out_after
unfolding pack_output
returns-in_err-n-clause-out_after c =
    let a = c.args in
    placed_whole a.at a.out.now c.min-front.ensures (pack_outcome a.values.now a.width (length a.out.now - a.at)) (packed-fits a.values.now a.width _)
    (rw (space_is a.at a.out.now c.min-front.ensures) at c.pack.ensures.1)

pub overflow_add-result : goal.overflow_add-result
unfolding pack_answer
overflow_add-result c =
    let a = c.args in
    let told = rw (space_is a.at a.out.now c.min-front.ensures) at c.pack.ensures.0 in
    let space = length a.out.now - a.at in
    let room = end_some (pack_outcome a.values.now a.width space) a.at _ told (packed-fits a.values.now a.width space) c.in_ok-n.ensures.value in
    search rules

pub returns-clause-value : goal.returns-clause-value
unfolding pack_answer
returns-clause-value c =
    let a = c.args in
    let told = rw (space_is a.at a.out.now c.min-front.ensures) at c.pack.ensures.0 in
    let space = length a.out.now - a.at in
    (end_some (pack_outcome a.values.now a.width space) a.at _ told (packed-fits a.values.now a.width space) c.in_ok-n.ensures.value).1

pub returns-clause-out_after : goal.returns-clause-out_after
unfolding pack_output
returns-clause-out_after c =
    let a = c.args in
    placed_whole a.at a.out.now c.min-front.ensures (pack_outcome a.values.now a.width (length a.out.now - a.at)) (packed-fits a.values.now a.width _)
    (rw (space_is a.at a.out.now c.min-front.ensures) at c.pack.ensures.1)
