-- The part from the place on is stored in, if the bytes fit, and the whole is that part after what stood before it (`Placing`).
use mathlib.Core.Path.{◌≡◌, ◌∙◌}
use Prim.Native.Nat.{ℕ, ◌-◌, ◌≤◌, min}
use native.Mathlib.Omega.{arith}
use borrow.Author.Rules.{rules}
use lib.ListN.{length}
use Rattle.format.specs.Standalone.{uvarint_write_outcome, uvarint_write_answer, uvarint_write_output}
use Rattle.places.proofs.Placing.{space_is, placed_whole, end_none, end_some, uvarint-fits, uvarint_none}
use Rattle.places.proofs.checked.put_long.Goals as goal

here : {at length : ℕ} → at ≤ length → at ≡ min at length
here inside = omega (arith, inside)

pub returns-then-out-at : goal.returns-then-out-at
returns-then-out-at c =
    let both = uvarint_none c.args.value c.args.at c.args.out.now (omega (arith, c.if-out-at.true)) in
    record { value = both.0; out_after = both.1 }

pub returns-in_err-n-clause-value : goal.returns-in_err-n-clause-value
unfolding uvarint_write_answer
returns-in_err-n-clause-value c =
    let a = c.args in
    let told = rw (space_is a.at a.out.now (here c.if-out-at.false)) at c.write_uvarint.ensures.value in
    c.from_residual.ensures ∙ end_none (uvarint_write_outcome a.value (length a.out.now - a.at)) a.at _ told c.in_err-n.ensures.value

pub returns-in_err-n-clause-out_after : goal.returns-in_err-n-clause-out_after
unfolding uvarint_write_output
returns-in_err-n-clause-out_after c =
    let a = c.args in
    placed_whole a.at a.out.now (here c.if-out-at.false) (uvarint_write_outcome a.value (length a.out.now - a.at)) (uvarint-fits a.value _)
    (rw (space_is a.at a.out.now (here c.if-out-at.false)) at c.write_uvarint.ensures.out_after)

pub overflow_add-result : goal.overflow_add-result
unfolding uvarint_write_answer
overflow_add-result c =
    let a = c.args in
    let told = rw (space_is a.at a.out.now (here c.if-out-at.false)) at c.write_uvarint.ensures.value in
    let space = length a.out.now - a.at in
    let room = end_some (uvarint_write_outcome a.value space) a.at _ told (uvarint-fits a.value space) c.in_ok-n.ensures.value in
    search rules

pub returns-clause-value : goal.returns-clause-value
unfolding uvarint_write_answer
returns-clause-value c =
    let a = c.args in
    let told = rw (space_is a.at a.out.now (here c.if-out-at.false)) at c.write_uvarint.ensures.value in
    let space = length a.out.now - a.at in
    (end_some (uvarint_write_outcome a.value space) a.at _ told (uvarint-fits a.value space) c.in_ok-n.ensures.value).1

pub returns-clause-out_after : goal.returns-clause-out_after
unfolding uvarint_write_output
returns-clause-out_after c =
    let a = c.args in
    placed_whole a.at a.out.now (here c.if-out-at.false) (uvarint_write_outcome a.value (length a.out.now - a.at)) (uvarint-fits a.value _)
    (rw (space_is a.at a.out.now (here c.if-out-at.false)) at c.write_uvarint.ensures.out_after)
