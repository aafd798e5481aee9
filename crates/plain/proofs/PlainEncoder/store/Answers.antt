-- After i turns the words of the column from i on are left.
use mathlib.Core.Path.{sym, ap}
use Prim.Native.Nat.{◌+◌}
use native.Mathlib.Omega.{arith}
use lib.IntN.{pos}
use lib.ListN.{get_or}
use borrow.Author.Rules.{rules}
use Rattle.number.proofs.Signed.{held}
use Rattle.format.specs.Chunk.{body_of}
use Rattle.format.specs.Keys.{key_bytes}
use Rattle.format.proofs.Lengths.Parts.{length-plain_body}
use Rattle.format.proofs.Numbers.Stores.{storing-done}
use Rattle.plain.proofs.Turns.{words-end, word_more}
use Rattle.plain.proofs.PlainEncoder.store.Goals as goal

pub overflow_add-at : goal.overflow_add-at
unfolding body_of
overflow_add-at c = omega (arith, length-plain_body c.args.column.values.now)

pub store-requires : goal.store-requires
unfolding body_of
store-requires c = omega (arith, length-plain_body c.args.column.values.now)

pub loop-i-preserved : goal.loop-i-preserved
unfolding key_bytes
loop-i-preserved c =
    let l = c.loop-i in
    let a = c.args in
    let stored = c.store.ensures in
    let bits = c.bits_of.ensures in
    (omega arith, rw (stored, bits, held (get_or a.column.values.now l.i (pos 0)) (search rules)) (word_more a.column.values.now a.at l.i l.invariant.1 (omega arith)))

pub overflow_add-result : goal.overflow_add-result
unfolding body_of
overflow_add-result c = omega (arith, length-plain_body c.args.column.values.now)

pub returns : goal.returns
unfolding body_of
returns c =
    let l = c.loop-i in record {
      value = ap (λ n. c.args.at + n) (sym (length-plain_body c.args.column.values.now));
      out_after = storing-done l.invariant.1 (words-end c.args.column.values.now l.i (omega arith));
    }
