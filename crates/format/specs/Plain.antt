-- 1. Plain (01, "The chunk"): "8 bytes a value, little-endian."
use Rattle.std.specs.Prelude.{ℕ, zero, suc, ◌+◌, ◌-◌, ◌*◌, List, [], ◌∷◌, ◌++◌, ℤ, leb, length, Option}
use Rattle.format.specs.Outcome.{Outcome, ok, check, ◌>>=◌}
use Rattle.format.specs.Keys.{key_bytes, key_at}
use Rattle.format.specs.declared.Extent.{Extent}

-- what writing stores after the header
unfoldable pub plain_body : List ℤ → List ℕ
plain_body [] = []
plain_body (v ∷ vs) = key_bytes v ++ plain_body vs

-- reading, from the body's start on: "eight bytes a value left? 9, body start."
unfoldable pub validate_plain : List ℕ → ℕ → ℕ → Option ℕ → Outcome Extent
validate_plain s start count padded = do
  _ ← check (leb (8 * count) (length s - start)) 9 start
  ok (record { end = start + 8 * count; padded = padded })

-- the values of a body that was read: a walk from `at` on
unfoldable pub plain_values : List ℕ → ℕ → ℕ → List ℤ
plain_values s at zero = []
plain_values s at (suc n) = key_at s at ∷ plain_values s (at + 8) n
