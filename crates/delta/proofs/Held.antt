-- Keys that are handed on: one that was read from a chunk is a key; the bounds of a window's deltas are read back from the bits that the machine holds.
use mathlib.Core.Path.{◌≡◌, ◌∙◌}
use mathlib.Core.List.{List}
use Prim.Native.Nat.{ℕ, ◌^◌, ◌<◌}
use native.Mathlib.Omega.{arith}
use lib.IntN.{ℤ}
use mir.Syntax.{w64}
use mir.Val.{to_z, of_z}
use Rattle.format.specs.Keys.{Key, zigzag}
use Rattle.format.specs.Varint.{uvarint_value}
use Rattle.format.specs.Folds.{least, deltas}
use Rattle.format.specs.Outcome.{ok}
use Rattle.format.specs.Standalone.{read_varint, Varint}
use Rattle.format.proofs.Numbers.Keys.{unzigzag-zigzag, unzigzag-key}
use Rattle.format.proofs.Numbers.Columns.{deltas-keys}
use Rattle.format.proofs.Numbers.Extremes.{least-key}
use Rattle.number.proofs.Signed.{held}
use Rattle.varint.proofs.Answers.{signed-read, read-range}

-- a key that was read
pub key-read : (s : List ℕ) (at : ℕ) {v : Varint} → read_varint s at ≡ ok v → Key v.value
unfolding uvarint_value
key-read s at {v} r =
    let small : zigzag v.value < 2 ^ 64 = omega (arith, (read-range s at (record { value = zigzag v.value; next = v.next; unpadded = v.unpadded }) (signed-read s at r)).2) in
    rw unzigzag-zigzag at (unzigzag-key (zigzag v.value) small)

-- the least of a window's deltas, handed on

pub low_held : (window : List ℤ) {low : ℤ} → low ≡ least (deltas window) → to_z w64 (of_z w64 low) ≡ least (deltas window)
low_held window {low} l = held low (rw l (least-key (deltas-keys window))) ∙ l
