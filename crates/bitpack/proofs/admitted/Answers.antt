-- 21, and then 12.
use borrow.Author.Rules.{rules}
use Rattle.bitpack.proofs.Asking.{limit_asked, width_answered}
use Rattle.bitpack.proofs.admitted.Goals as goal

pub returns-then-count-gt-MAX_CHUNK_ELEMENTS : goal.returns-then-count-gt-MAX_CHUNK_ELEMENTS
returns-then-count-gt-MAX_CHUNK_ELEMENTS c = let told = limit_asked c.args.count c.args.width c.if-count-gt-MAX_CHUNK_ELEMENTS.true in search (rules, told)

pub returns : goal.returns
returns c = width_answered c.args.width c.if-count-gt-MAX_CHUNK_ELEMENTS.false _ c.new.ensures
