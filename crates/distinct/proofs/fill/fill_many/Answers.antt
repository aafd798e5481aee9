-- `fill_many` meets its contract: every place of the table has the first key.
use borrow.Author.Rules.{rules}
use mathlib.Core.Path.{◌∙◌}
use lib.IntN.{pos}
use lib.ListN.{get_or-replicate}
use Rattle.distinct.proofs.Machine.{read_back}
use Rattle.distinct.proofs.fill.fill_many.Goals as goal

pub fill-requires-clause-by_index : goal.fill-requires-clause-by_index
fill-requires-clause-by_index c = rw c.new.ensures.table (λ k h. get_or-replicate 32768 k _ (pos 0) h ∙ read_back (search rules))
