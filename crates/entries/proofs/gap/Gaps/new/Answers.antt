-- A walk over no entries gives nothing, and any other begins with the first entry's ZigZag.
use lib.IntN.{pos}
use native.Mathlib.Omega.{arith}
use borrow.Author.Rules.{rules}
use Rattle.number.proofs.Signed.{held}
use Rattle.entries.specs.Gaps.{to_come}
use Rattle.entries.proofs.Begins.{begins_none, begins_first}
use Rattle.entries.proofs.gap.Gaps.new.Goals as goal

pub returns-in_default : goal.returns-in_default
unfolding to_come
returns-in_default c = begins_none c.args.entries.now _ (omega (arith, c.in_default.ensures.item.3))

pub returns : goal.returns
unfolding to_come
returns c =
    let first = held c.in-Some.field-0.now (search rules) in
    let last = held c.before-2.result (search rules) in
    rw last (begins_first c.args.entries.now _ _ c.in-Some.ensures.item.3.0 (c.in-Some.ensures.item.3.1 (pos 0)) (rw first at c.before-2.ensures))
