-- The least and the greatest value of what was walked over and what is left are the column's (`Bounded`).
use mathlib.Core.Path.{refl, ap, ◌∙◌}
use native.Mathlib.Omega.{arith}
use lib.IntN.{pos}
use lib.ListN.{get_or}
use borrow.Author.Rules.{rules}
use Rattle.format.specs.Keys.{Key, lesser, greater}
use Rattle.format.specs.Width.{width}
use Rattle.number.proofs.Signed.{held}
use Rattle.frame.proofs.Bounds.{fitted_none, bounded_none, bounded-more, bounded-least, bounded-width}
use Rattle.frame.proofs.writing.fit_of.Goals as goal

pub loop-value-init : goal.loop-value-init
loop-value-init c =
    let first = c.in-Some.ensures.item.3 in
    let value : Key (get_or c.args.column.now 0 (pos 0)) = search rules in
    rw (first.1 (pos 0), held (get_or c.args.column.now 0 (pos 0)) value) (bounded_none c.args.column.now first.0)

pub loop-value-preserved : goal.loop-value-preserved
loop-value-preserved c =
    let l = c.loop-value in
    let value : Key (get_or c.args.column.now l.value-index (pos 0)) = search rules in
    let v = held (get_or c.args.column.now l.value-index (pos 0)) value in
    bounded-more l.invariant (omega arith) value
    (held c.lesser-least.result c.lesser-least.type_inv ∙ c.lesser-least.ensures ∙ ap (lesser _) v)
    (held c.greater-greatest.result c.greater-greatest.type_inv ∙ c.greater-greatest.ensures ∙ ap (greater _) v)

pub returns : goal.returns
returns c =
    let b = c.loop-value.invariant in
    let end = c.loop-value-test.false in
    record { base = bounded-least b end; widest = c.of-2.ensures ∙ ap width c.gap.ensures ∙ bounded-width b end }

pub returns-in_default : goal.returns-in_default
returns-in_default c = let none = c.in_default.ensures.item.3 in fitted_none (omega arith) refl c.of.ensures
