-- `bench_read_uvarints` meets its contract: the values stored, then those of the row from `pos` on, are the whole row.
use mathlib.Core.Path.{sym, ap, ◌∙◌}
use native.Mathlib.Nat.{sub-zero}
use borrow.Author.Rules.{rules}
use Rattle.format.specs.Answers.{outcome_of}
use Rattle.bench.proofs.Filled.{none, all}
use Rattle.bench.proofs.Rows.{row-stop, row-full, row_read}
use Rattle.bench.proofs.bench_read_uvarints.Goals as goal

pub loop-i-init : goal.loop-i-init
loop-i-init c = rw sub-zero (none _ _)

pub returns-in_default : goal.returns-in_default
returns-in_default c =
    let l = c.loop-i in
    all l.invariant (row-stop _ _ _ (sym c.read_uvarint.ensures ∙ ap outcome_of c.in_default.is))

pub loop-i-preserved : goal.loop-i-preserved
loop-i-preserved c =
    let l = c.loop-i in
    row_read _ _ l.invariant (search rules) (sym c.read_uvarint.ensures ∙ ap outcome_of c.in-Ok.is)

pub returns : goal.returns
returns c = all c.loop-i.invariant (row-full _ _ _ (search rules))
