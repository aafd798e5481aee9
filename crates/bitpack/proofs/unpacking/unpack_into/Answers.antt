-- The first k values have their words inside, and the others are stored after them.
use mathlib.Core.Path.{◌∙◌}
use native.Mathlib.Omega.{arith}
use Rattle.format.specs.Digits.{of_digits}
use Rattle.format.specs.Packing.{unpacked}
use Rattle.bitpack.proofs.Unpacker.{none, more, filled_all, later_value, later_long, values_whole}
use Rattle.bitpack.proofs.unpacking.unpack_into.Goals as goal

pub loop-i-init : goal.loop-i-init
loop-i-init c = none

pub loop-i-preserved : goal.loop-i-preserved
loop-i-preserved c =
    let a = c.args in
    more c.loop-i.invariant (c.value_at.ensures ∙ later_value a.width.bits (of_digits 256 a.s.now) c.within-k.result c.loop-i.i) c.loop-i-test.true

pub returns : goal.returns
unfolding unpacked
returns c =
    let a = c.args in
    let w = a.width.bits in
    let N = of_digits 256 a.s.now in
    let k = c.within-k.result in
    let long = later_long w N k a.out.now c.within-k.ensures.most c.unpack_words.ensures in
    values_whole w N k a.out.now c.within-k.ensures.most c.unpack_words.ensures
    (filled_all c.loop-i.invariant long (omega (arith, long, c.loop-i-test.false, c.loop-i.auto.i-end)))
