-- 3. BitPacked (01, "The chunk"): "width byte, packed ZigZags."
use Rattle.std.specs.Prelude.{ℕ, ◌+◌, List, ◌∷◌, map, ℤ, get_or, Option}
use Rattle.format.specs.Outcome.{Outcome, ok, ◌>>=◌}
use Rattle.format.specs.Keys.{zigzag, unzigzag}
use Rattle.format.specs.declared.Extent.{Extent}
use Rattle.format.specs.Width.{width}
use Rattle.format.specs.Packing.{packed, width_at, packed_end, packed_values}
use Rattle.format.specs.Folds.{largest}

-- "Widths are those of the largest number packed": a width byte and the numbers packed at it
unfoldable pub packed_body : List ℕ → List ℕ
packed_body ns = width (largest ns) ∷ packed (width (largest ns)) ns

-- what writing stores after the header
unfoldable pub bit_packed_body : List ℤ → List ℕ
bit_packed_body column = packed_body (map zigzag column)

-- reading, from the body's start on
unfoldable pub validate_bit_packed : List ℕ → ℕ → ℕ → Option ℕ → Outcome Extent
validate_bit_packed s start count padded = do
  w ← width_at s start
  end ← packed_end s (start + 1) w count
  ok (record { end = end; padded = padded })

-- the values of a body that was read
unfoldable pub bit_packed_values : List ℕ → ℕ → ℕ → List ℤ
bit_packed_values s start count = map unzigzag (packed_values s (start + 1) (get_or s start 0) count)
