-- After some turns so many lowest bytes of x are stored, and `rest` is what is above them.
use mathlib.Core.Path.{◌≡◌}
use Prim.Native.Nat.{◌/◌, ◌^◌}
use lib.Seq.{sets}
use Rattle.format.specs.Digits.{digits}
use Rattle.bitpack.proofs.words.put_bytes.Given as goal

abbrev pub invariant-loop-byte : goal.invariant-loop-byte
invariant-loop-byte l = (l.rest ≡ l.x / 256 ^ l.byte-index) × (l.byte-items ≡ sets l.initial.byte-items 0 (digits 256 l.byte-index l.x))
