-- `writing::store` meets its contract: the first value, the block size and the blocks are stored one behind the other.
use mathlib.Core.Path.{sym, ap, ◌∙◌}
use lib.Seq.{sets}
use borrow.Author.Rules.{rules}
use Rattle.format.specs.Keys.{Key}
use Rattle.format.proofs.Numbers.Stores.{storing-room}
use Rattle.delta.proofs.Measured.{body-empty}
use Rattle.delta.proofs.Placed.{first_some, size_some, size_stored}
use Rattle.delta.proofs.writing.store.Goals as goal

pub returns-in_default : goal.returns-in_default
returns-in_default c =
    let a = c.args in
    ap (sets a.out.now a.at) (sym (body-empty a.column.now c.in_default.ensures.value))

pub unwrap-size_at-requires : goal.unwrap-size_at-requires
unwrap-size_at-requires c =
    let key : Key c.in-Some.field-0.now = search rules in
    let p = c.put_varint.ensures in
    first_some c.args.column.now _ _ c.requires c.in-Some.ensures.value key (p.value, p.out_after)

pub unwrap-blocks_at-requires : goal.unwrap-blocks_at-requires
unwrap-blocks_at-requires c =
    let key : Key c.in-Some.field-0.now = search rules in
    let p = c.put_varint.ensures in
    let q = c.put_uvarint.ensures in
    size_some c.args.column.now _ _ c.requires c.in-Some.ensures.value key (p.value, p.out_after) c.unwrap-size_at.ensures (q.value, q.out_after)

pub store_blocks-requires : goal.store_blocks-requires
store_blocks-requires c =
    let key : Key c.in-Some.field-0.now = search rules in
    let p = c.put_varint.ensures in
    let q = c.put_uvarint.ensures in
    storing-room (size_stored c.args.column.now _ _ c.requires c.in-Some.ensures.value key (p.value, p.out_after) c.unwrap-size_at.ensures (q.value, q.out_after) c.unwrap-blocks_at.ensures) c.requires

pub returns : goal.returns
returns c =
    let key : Key c.in-Some.field-0.now = search rules in
    let p = c.put_varint.ensures in
    let q = c.put_uvarint.ensures in
    c.store_blocks.ensures
    ∙ (size_stored c.args.column.now _ _ c.requires c.in-Some.ensures.value key (p.value, p.out_after) c.unwrap-size_at.ensures (q.value, q.out_after) c.unwrap-blocks_at.ensures).same
