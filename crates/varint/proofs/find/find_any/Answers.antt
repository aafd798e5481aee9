-- `varint::find::find_any` meets its contract: what is found, and 0 and 0 where nothing is.
use borrow.Author.Rules.{rules}
use Rattle.varint.proofs.Finding.{found_or_default}
use Rattle.varint.proofs.find.find_any.Goals as goal

pub returns : goal.returns
returns c = found_or_default _ _ c.find_any.ensures (search rules)
