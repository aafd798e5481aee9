-- What is left to walk was read, and leads to where the whole leads.
use mathlib.Core.Path.{sym, ◌∙◌}
use native.Mathlib.Omega.{arith}
use Rattle.dictionary.proofs.ReadEntries.{after_step, after_end, read_some, read-value, read_next}
use Rattle.dictionary.proofs.row.Row.end.Goals as goal

pub unwrap-at-requires : goal.unwrap-at-requires
unwrap-at-requires c = read_some _ c.loop.at (omega arith) c.loop.invariant.0 c.find_any.ensures

pub loop-preserved : goal.loop-preserved
loop-preserved c =
    let l = c.loop in
    rw (read-value _ c.loop.at c.find_any.ensures c.unwrap-at.ensures) (read_next _ l.at (omega arith) l.invariant.0, after_step _ l.at (omega arith) ∙ l.invariant.1)

pub returns : goal.returns
returns c = sym (after_end _ c.loop.at (omega arith)) ∙ c.loop.invariant.1
