-- `record::stats_of` meets its contract, field by field: what the pass gives, and what the calls make of it.
use mathlib.Core.Path.{◌≡◌, sym, ◌∙◌}
use lib.IntN.{pos}
use lib.ListN.{get_or}
use borrow.Author.Rules.{rules}
use borrow.Author.Tests.{eqb-true, eqb-false}
use Rattle.format.specs.Keys.{gap}
use Rattle.number.proofs.Signed.{held}
use Rattle.stats.proofs.Fields.{result-of}
use Rattle.stats.proofs.Recording.{stats-none, stats-made}
use Rattle.stats.proofs.record.stats_of.Goals as goal

pub returns-then-is_empty : goal.returns-then-is_empty
returns-then-is_empty c = c.default.ensures ∙ stats-none _ (eqb-true _ 0 (sym c.is_empty.ensures ∙ c.if-is_empty.true))

pub returns : goal.returns
returns c =
    let p = c.walk-pass.result in
    rw (
      held (get_or c.args.column.values.now 0 (pos 0)) (search rules),
      held p.values.low (search rules),
      held p.values.high (search rules),
      held p.steps.low (search rules),
      held p.steps.high (search rules),
    )
    (stats-made _ p (eqb-false _ 0 (sym c.is_empty.ensures ∙ c.if-is_empty.false)) c.walk-pass.ensures c.requires c.sortedness_of.ensures
    (result-of gap p.values.low p.values.high (search rules) (search rules) c.gap.ensures)
    (result-of gap p.steps.low p.steps.high (search rules) (search rules) c.gap-2.ensures))
