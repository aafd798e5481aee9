-- The word, and the byte after it, are parts of the number that the bytes make: the rest is the laws of fields. A remainder by 2 ^ 0 is 0.
use mathlib.Core.Path.{◌∙◌, sym}
use Prim.Native.Nat.{◌+◌, ◌/◌}
use native.Mathlib.Nat.{mod-one}
use Rattle.format.specs.Digits.{of_digits}
use Rattle.format.proofs.Numbers.All.{all-by}
use Rattle.format.proofs.Numbers.Places.{of_digits-at}
use Rattle.bitpack.proofs.Fields.{low_bits, nine-bytes}
use Rattle.bitpack.proofs.Unpacker.{word_part}
use Rattle.bitpack.proofs.unpacking.value_at.Goals as goal

pub returns-then-w-eq0 : goal.returns-then-w-eq0
returns-then-w-eq0 c = rw c.if-w-eq0.true (sym (mod-one _))

pub returns-then-off-w-le64 : goal.returns-then-off-w-le64
returns-then-off-w-le64 c =
    let a = c.args in
    low_bits (of_digits 256 a.s.now) a.bit a.width.bits (word_part (a.bit / 8) (all-by a.s.now 0 λ i _. (c.type_inv.s i).fits) c.load_padded.ensures) c.requires.0 c.if-off-w-le64.true

pub returns : goal.returns
returns c =
    let a = c.args in
    nine-bytes (of_digits 256 a.s.now) a.bit a.width.bits (word_part (a.bit / 8) (all-by a.s.now 0 λ i _. (c.type_inv.s i).fits) c.load_padded.ensures) c.requires.0
    (c.from.ensures ∙ c.byte_at.ensures ∙ sym (of_digits-at (a.bit / 8 + 8) (all-by a.s.now 0 λ i _. (c.type_inv.s i).fits)))
    a.width.narrow
