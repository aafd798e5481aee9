-- `varint::checked::find_long` meets its contract: where the last byte that may be is no last one, nothing is found.
use Rattle.varint.proofs.Finding.{found_over}
use Rattle.varint.proofs.checked.find_long.Goals as goal

pub returns-then-last-ge128 : goal.returns-then-last-ge128
returns-then-last-ge128 c = found_over _ _ c.requires.1 c.from-more.ensures c.if-last-ge128.true c.requires.0
