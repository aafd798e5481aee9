-- 4. FrameOfReference (01, "The chunk"): "least value (8 bytes), width byte, packed differences from it."
use Rattle.std.specs.Prelude.{ℕ, ◌+◌, List, ◌++◌, map, ℤ, pos, leb, length, get_or, Option}
use Rattle.format.specs.Outcome.{Outcome, ok, check, ◌>>=◌}
use Rattle.format.specs.Keys.{gap, wrapping_add, key_bytes, key_at}
use Rattle.format.specs.declared.Extent.{Extent}
use Rattle.format.specs.Packing.{packed_end, packed_values}
use Rattle.format.specs.Folds.{least}
use Rattle.format.specs.BitPacked.{packed_body}

-- what writing stores after the header
unfoldable pub frame_body : List ℤ → List ℕ
frame_body column = key_bytes (least column) ++ packed_body (map (gap (least column)) column)

-- reading, from the body's start on: "FrameOfReference's nine bytes there? 11, after header."
unfoldable pub validate_frame : List ℕ → ℕ → ℕ → Option ℕ → Outcome Extent
validate_frame s start count padded = do
  _ ← check (leb (start + 9) (length s)) 11 start
  end ← packed_end s (start + 9) (get_or s (start + 8) 0) count
  ok (record { end = end; padded = padded })

-- the values of a body that was read: "every sum on reading wraps"
unfoldable pub frame_values : List ℕ → ℕ → ℕ → List ℤ
frame_values s start count = map (λ n. wrapping_add (key_at s start) (pos n)) (packed_values s (start + 9) (get_or s (start + 8) 0) count)
