-- BitPacked: what was written is read back. ZigZags fit the width of the largest, and give the keys back.
use mathlib.Core.Path.{◌≡◌}
use Prim.Native.Nat.{ℕ, ◌+◌}
use mathlib.Core.List.{List, map}
use lib.IntN.{ℤ}
use lib.ListN.{length, length-map}
use Rattle.format.specs.Outcome.{ok}
use Rattle.format.specs.Keys.{zigzag, Key}
use Rattle.format.specs.BitPacked.{bit_packed_body, validate_bit_packed, bit_packed_values}
use Rattle.format.proofs.Numbers.Columns.{below-zigzags, map-unzigzag}
use Rattle.format.proofs.Numbers.All.{All}
use Rattle.format.proofs.Numbers.Occurs.{Occurs}
use Rattle.format.proofs.Codecs.Packed.{body-width, body-byte, body_end, body_back}
use Rattle.std.specs.Prelude.{Option}

module _ {s : List ℕ} {at : ℕ} {column : List ℤ} (ks : All Key column) where
  -- BitPacked: the end of a body that occurs at a place,
  pub bit_packed-validate :
      Occurs s at (bit_packed_body column) → (padded : Option ℕ)
      → validate_bit_packed s at (length column) padded ≡ ok (record { end = at + length (bit_packed_body column); padded = padded })
  unfolding validate_bit_packed bit_packed_body
  bit_packed-validate o padded =
      rw (body-width (map zigzag column) (below-zigzags ks) o, ← length-map column zigzag, body_end (map zigzag column) (below-zigzags ks) o)

  -- and its values
  pub bit_packed-back : Occurs s at (bit_packed_body column) → bit_packed_values s at (length column) ≡ column
  unfolding bit_packed_values bit_packed_body
  bit_packed-back o =
      rw (body-byte (map zigzag column) (below-zigzags ks) o, ← length-map column zigzag, body_back (map zigzag column) (below-zigzags ks) o)
      (map-unzigzag column)
