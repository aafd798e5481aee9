-- The values from the k-th on are stored in what is left of the buffer.
use Prim.Native.Nat.{◌*◌, ◌/◌, ◌^◌}
use Rattle.format.specs.Digits.{of_digits}
use Rattle.bitpack.proofs.Unpacker.{Filled}
use Rattle.bitpack.proofs.unpacking.unpack_into.Given as goal

abbrev pub invariant-loop-i : goal.invariant-loop-i
invariant-loop-i l = Filled l.fn.width.bits (of_digits 256 l.s / 2 ^ (l.k * l.fn.width.bits)) l.initial.value-items l.value-items l.i
