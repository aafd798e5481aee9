-- A length that is refused is taken for 0 copies, and the place after it for 0.
use Rattle.varint.proofs.Finding.{found_or_default}
use Rattle.keys.proofs.times_after.Goals as goal

pub returns-then-lengths : goal.returns-then-lengths
returns-then-lengths c = rw c.if-lengths.true (found_or_default _ _ c.find_length.ensures c.unwrap_or_default.ensures)
