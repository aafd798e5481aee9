-- `pass::first_delta` meets its contract: two values have a delta, and fewer have none.
use mathlib.Core.Path.{◌∙◌}
use borrow.Author.Rules.{rules}
use lib.IntN.{pos}
use lib.ListN.{get_or}
use Rattle.format.specs.Keys.{delta}
use Rattle.stats.proofs.Fields.{field_of}
use Rattle.stats.proofs.Folds.{delta-none, delta-first}
use Rattle.stats.proofs.pass.first_delta.Goals as goal

pub returns-then-column-lt2 : goal.returns-then-column-lt2
returns-then-column-lt2 c = delta-none _ c.if-column-lt2.true

pub returns : goal.returns
returns c =
    let column = c.args.column.now in
    let d = c.wrapping_sub in
    field_of delta (get_or column 0 (pos 0)) (get_or column 1 (pos 0)) (search rules) (search rules) d.ensures d.type_inv
    ∙ delta-first column c.if-column-lt2.false
