-- A run more is its key's varint and its length's.
use Prim.Native.Nat.{◌^◌, ◌<◌}
use lib.Signed.{mag}
use borrow.Author.Rules.{rules}
use Rattle.runs.proofs.Puts.{key_some, times_some, putting_more}
use Rattle.runs.proofs.writing.store_runs.Goals as goal

pub unwrap-after_key-requires : goal.unwrap-after_key-requires
unwrap-after_key-requires c =
    let p = c.put_varint.ensures in
    let fits : mag c.in-Some.key < 2 ^ 63 = search rules in
    key_some _ _ _ _ _ _ c.loop-key.invariant _ c.requires c.in-Some.ensures.steps fits (p.value, p.out_after)

pub unwrap-at-requires : goal.unwrap-at-requires
unwrap-at-requires c =
    let p = c.put_varint.ensures in
    let q = c.put_uvarint.ensures in
    let fits : mag c.in-Some.key < 2 ^ 63 = search rules in
    times_some _ _ _ _ _ _ c.loop-key.invariant _ c.requires c.in-Some.ensures.steps fits (p.value, p.out_after) c.unwrap-after_key.ensures (q.value, q.out_after)

pub loop-key-preserved : goal.loop-key-preserved
loop-key-preserved c =
    let p = c.put_varint.ensures in
    let q = c.put_uvarint.ensures in
    let fits : mag c.in-Some.key < 2 ^ 63 = search rules in
    putting_more _ _ _ _ _ _ c.loop-key.invariant _ c.requires c.in-Some.ensures.steps fits (p.value, p.out_after) c.unwrap-after_key.ensures (q.value, q.out_after) c.unwrap-at.ensures
