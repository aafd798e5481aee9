-- Varint: what was written is read back. The body is the varints of the ZigZags in a row.
use mathlib.Core.Path.{◌≡◌, refl, ap}
use mathlib.Core.List.{List, [], ◌∷◌, ◌++◌, map}
use Prim.Native.Nat.{ℕ, ◌+◌}
use lib.IntN.{ℤ}
use lib.ListN.{length, length-map}
use Rattle.format.specs.Outcome.{ok}
use Rattle.format.specs.Keys.{Key, zigzag}
use Rattle.format.specs.Varint.{uvarint_bytes, varint_bytes}
use Rattle.format.specs.VarintBody.{varint_body, validate_varint_body, varint_body_values}
use Rattle.format.proofs.Numbers.All.{All}
use Rattle.format.proofs.Numbers.Columns.{below-zigzags, map-unzigzag}
use Rattle.format.proofs.Numbers.Occurs.{Occurs, occurs-as}
use Rattle.format.proofs.Numbers.UvarintRows.{uvarints_bytes, validate_uvarints-back, uvarint_values-back}
use Rattle.std.specs.Prelude.{Option}

-- the body is varints in a row
varint_body-is : (column : List ℤ) → varint_body column ≡ uvarints_bytes (map zigzag column)
unfolding varint_body uvarints_bytes varint_bytes
varint_body-is [] = refl
varint_body-is (v ∷ vs) = ap (λ (l : List ℕ). uvarint_bytes (zigzag v) ++ l) (varint_body-is vs)

module _ {s : List ℕ} {at : ℕ} {column : List ℤ} (ks : All Key column) (o : Occurs s at (varint_body column)) where
  -- Varint: the end of a body that occurs at a place,
  pub varint-validate : (padded : Option ℕ) → validate_varint_body s at (length column) padded ≡ ok (record { end = at + length (varint_body column); padded = padded })
  unfolding validate_varint_body
  varint-validate padded =
      rw (varint_body-is column, ← length-map column zigzag) (validate_uvarints-back padded (below-zigzags ks) (occurs-as (varint_body-is column) o))

  -- and its values
  pub varint-back : varint_body_values s at (length column) ≡ column
  unfolding varint_body_values
  varint-back = rw (← length-map column zigzag, uvarint_values-back (below-zigzags ks) (occurs-as (varint_body-is column) o)) (map-unzigzag column)
