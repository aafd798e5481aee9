-- A varint that was read ends within the chunk.
use mathlib.Core.Path.{sym}
use Rattle.varint.proofs.Answers.{read-range}
use Rattle.dictionary.proofs.reading.settle_body.Goals as goal

pub overflow_sub-chunk : goal.overflow_sub-chunk
overflow_sub-chunk c = (read-range _ _ _ (sym c.in_ok-total.ensures)).1
