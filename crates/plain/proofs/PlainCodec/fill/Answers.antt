-- After i turns the values of the bytes from start + 8 * i on are left.
use mathlib.Core.Path.{◌≡◌, ◌∙◌, ap}
use Prim.Native.Nat.{◌+◌, ◌*◌, ◌<◌, ◌≤◌}
use native.Mathlib.Omega.{arith}
use lib.ListN.{take, drop}
use lib.Seq.{length-take-le}
use mir.Syntax.{w64}
use mir.Facts.{to_z-of_z}
use Rattle.format.specs.Chunk.{body_values}
use Rattle.format.specs.Digits.{of_digits}
use Rattle.format.specs.Keys.{as_signed, key_at}
use Rattle.format.proofs.Numbers.Stores.{storing-done}
use Rattle.plain.proofs.Chunks.{body_inside}
use Rattle.plain.proofs.Turns.{values-end, value-more, front-filled}
use Rattle.plain.proofs.PlainCodec.fill.Goals as goal

pub loop-i-preserved : goal.loop-i-preserved
unfolding key_at
loop-i-preserved c =
    let l = c.loop-i in
    let a = c.args in
    let s = a.body.chunk.now in
    let h = a.body.header in
    let key : c.of_bits.result ≡ as_signed (of_digits 256 (take 8 (drop (h.start + 8 * l.i) s))) = c.of_bits.ensures ∙ ap as_signed (omega (arith, c.load.ensures)) in
    let under : l.i < h.count = omega (arith, c.loop-i-test.true, length-take-le h.count a.column.now c.requires.room) in
    rw (to_z-of_z {w = w64} (record { sfits = c.of_bits.type_inv }), key) (value-more s h.start h.count l.i l.invariant under)

pub returns : goal.returns
unfolding body_values
returns c =
    let l = c.loop-i in
    let a = c.args in
    let s = a.body.chunk.now in
    let h = a.body.header in
    let over : h.count ≤ l.i = omega (arith, c.loop-i-test.false, length-take-le h.count a.column.now c.requires.room) in
    front-filled s h.start h.count a.column.now c.requires.room (storing-done l.invariant (values-end s _ h.count l.i over))

pub load-requires : goal.load-requires
load-requires c = omega (arith, body_inside c.requires.passed, c.loop-i-test.true, length-take-le c.args.body.header.count c.args.column.now c.requires.room)
