-- A key more, and so many of its copies as have room.
use borrow.Author.Rules.{rules}
use Rattle.varint.proofs.Finding.{found_or_default}
use Rattle.keys.proofs.Filling.{filling_more}
use Rattle.keys.proofs.fill_keys.Goals as goal

pub loop-preserved : goal.loop-preserved
loop-preserved c =
    filling_more c.loop.invariant (search rules) (found_or_default _ _ c.find_uvarint.ensures c.unwrap_or_default-key.ensures) c.times_after-times.ensures c.min-count.ensures
    c.zigzag_decode.type_inv c.zigzag_decode.ensures c.fill_run.ensures
