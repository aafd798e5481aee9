-- Each of the values has its word inside, and all its bits in that word.
use mathlib.Core.Path.{refl}
use Prim.Native.Nat.{◌*◌, ◌/◌}
use native.Mathlib.Omega.{arith}
use Rattle.format.specs.Digits.{of_digits}
use Rattle.format.specs.Packing.{unpacked}
use Rattle.format.proofs.Numbers.All.{all-by}
use Rattle.bitpack.proofs.Fields.{low_bits}
use Rattle.bitpack.proofs.Unpacker.{none, more, filled_all, word_inside, word_part}
use Rattle.bitpack.proofs.unpacking.unpack_words.Goals as goal

pub loop-i-preserved : goal.loop-i-preserved
loop-i-preserved c =
    let l = c.loop-i in
    let a = c.args in
    let w = a.width.bits in
    let value = low_bits (of_digits 256 a.s.now) (l.i * w) w (word_part (l.i * w / 8) (all-by a.s.now 0 λ j _. (c.type_inv.s j).fits) c.load.ensures)
    c.mask-m.ensures (word_inside c.requires.1 (omega (arith, c.loop-i-test.true))).0 in
    more l.invariant value c.loop-i-test.true

pub loop-i-init : goal.loop-i-init
loop-i-init c = none

pub returns : goal.returns
unfolding unpacked
returns c = filled_all c.loop-i.invariant refl (omega (arith, c.loop-i-test.false, c.loop-i.auto.i-end))
