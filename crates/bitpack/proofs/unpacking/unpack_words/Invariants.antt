-- Each of the values has its word inside, and all its bits in that word.
use Rattle.format.specs.Digits.{of_digits}
use Rattle.bitpack.proofs.Unpacker.{Filled}
use Rattle.bitpack.proofs.unpacking.unpack_words.Given as goal

abbrev pub invariant-loop-i : goal.invariant-loop-i
invariant-loop-i l = Filled l.fn.width.bits (of_digits 256 l.s) l.initial.out l.out l.i
