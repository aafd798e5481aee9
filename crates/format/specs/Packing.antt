-- Bit packing (01, "Numbers as bytes"): "Packing puts value i at bit i·width, lowest bit of a byte first, spare top bits zero. Packed length is
-- count·width/8 rounded up. Packing drops bits above the width; reading ignores spare bits."
use Rattle.std.specs.Prelude.{ℕ, ◌+◌, ◌-◌, ◌*◌, ◌/◌, ◌%◌, ◌^◌, List, map, leb, ltb, length, get_or, drop}
use Rattle.format.specs.Outcome.{Outcome, ok, check, ◌>>=◌}
use Rattle.format.specs.Digits.{of_digits, digits}

-- "Packed length is count·width/8 rounded up."
unfoldable pub packed_len : ℕ → ℕ → ℕ
packed_len count w = (count * w + 7) / 8

-- "Packing puts value i at bit i·width, lowest bit of a byte first, spare top bits zero." "Packing drops bits above the width"
unfoldable pub packed : ℕ → List ℕ → List ℕ
packed w vs = digits 256 (packed_len (length vs) w) (of_digits (2 ^ w) (map (λ v. v % 2 ^ w) vs))

-- the count values packed at the front of a body; "reading ignores spare bits", and whatever comes after
unfoldable pub unpacked : ℕ → ℕ → List ℕ → List ℕ
unpacked w count body = digits (2 ^ w) count (of_digits 256 body)

-- "Width byte there? 10, its place."
unfoldable pub width_at : List ℕ → ℕ → Outcome ℕ
width_at s at = do
  _ ← check (ltb at (length s)) 10 at
  ok (get_or s at 0)

-- Where a packed body that begins at `at` ends. "Width at most 64? 12, at 0. Packed bytes there? 13, offset the number of bytes from the packed
-- body's start to the end."
unfoldable pub packed_end : List ℕ → ℕ → ℕ → ℕ → Outcome ℕ
packed_end s at w count = do
  _ ← check (leb w 64) 12 0
  _ ← check (leb (packed_len count w) (length s - at)) 13 (length s - at)
  ok (at + packed_len count w)

-- the values of the packed body that begins at `at`
unfoldable pub packed_values : List ℕ → ℕ → ℕ → ℕ → List ℕ
packed_values s at w count = unpacked w count (drop at s)
