-- `raise` meets its contract: each turn keeps `Raised`.
use borrow.Author.Rules.{rules}
use Rattle.distinct.proofs.Machine.{read_back}
use Rattle.distinct.proofs.Merging.{raised-more}
use Rattle.distinct.proofs.merge.raise.Goals as goal

pub loop-i-preserved : goal.loop-i-preserved
loop-i-preserved c = raised-more c.loop-i.invariant c.requires.0 c.loop-i-test.true (read_back (search rules)) c.if-value-key.false (read_back (search rules))
