-- After i turns the varints of the column from i on are left, and they are to be stored from `next` on.
use native.Mathlib.Omega.{arith}
use lib.IntN.{pos}
use lib.ListN.{get_or}
use mir.Syntax.{w64}
use mir.Facts.{to_z-of_z}
use borrow.Author.Rules.{rules}
use Rattle.format.specs.Chunk.{body_of}
use Rattle.format.specs.Keys.{zigzag}
use Rattle.places.proofs.Placing.{PutUvarint}
use Rattle.format.proofs.Numbers.Stores.{storing-done, storing-end}
use Rattle.varints.proofs.Turns.{body_end, put_found, store-more}
use Rattle.varints.proofs.VarintEncoder.store.Goals as goal
use Rattle.varints.proofs.VarintEncoder.store.Goals.{After-put_varint}

put : (c : After-put_varint) → PutUvarint (zigzag (get_or c.args.column.values.now c.loop-value.value-index (pos 0))) c.loop-value.out c.loop-value.next c.put_varint.new.out c.put_varint.result
put c =
    let back = to_z-of_z {w = w64} {z = get_or c.args.column.values.now c.loop-value.value-index (pos 0)} (record { sfits = (search rules) }) in
    let value = rw back at c.put_varint.ensures.value in
    let out = rw back at c.put_varint.ensures.out_after in
    (value, out)

pub unwrap-next-requires : goal.unwrap-next-requires
unfolding body_of
unwrap-next-requires c =
    let l = c.loop-value in
    put_found c.args.column.values.now l.value-index l.invariant.1 (omega arith) c.requires.room (put (goal.at.unwrap-next-requires c).After-put_varint)

pub loop-value-preserved : goal.loop-value-preserved
unfolding body_of
loop-value-preserved c =
    let l = c.loop-value in
    let there = put (goal.at.loop-value-preserved c).After-put_varint in
    (omega arith, store-more c.args.column.values.now l.value-index l.invariant.1 (omega arith) c.requires.room there c.unwrap-next.ensures)

pub returns : goal.returns
unfolding body_of
returns c =
    let l = c.loop-value in
    let none = body_end c.args.column.values.now l.value-index (omega arith) in
    record { value = storing-end l.invariant.1 none; out_after = storing-done l.invariant.1 none }
