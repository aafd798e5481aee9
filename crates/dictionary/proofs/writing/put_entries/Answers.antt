-- A number more is its varint.
use Rattle.dictionary.proofs.Entries.{putting_begun, putting_some, putting_more}
use Rattle.dictionary.proofs.writing.put_entries.Goals as goal

pub loop-number-init : goal.loop-number-init
loop-number-init c = putting_begun _ _ _ _ (rw c.into_iter-number-iterator.ensures.into_iter_gives c.new-number-items.ensures)

pub unwrap-at-requires : goal.unwrap-at-requires
unwrap-at-requires c =
    putting_some _ _ _ _ _ _ c.loop-number.invariant _ c.requires c.in-Some.ensures.steps (c.put_uvarint.ensures.value, c.put_uvarint.ensures.out_after)

pub loop-number-preserved : goal.loop-number-preserved
loop-number-preserved c =
    putting_more _ _ _ _ _ _ c.loop-number.invariant _ c.requires c.in-Some.ensures.steps (c.put_uvarint.ensures.value, c.put_uvarint.ensures.out_after) c.unwrap-at.ensures
