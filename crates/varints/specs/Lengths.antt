-- Lengths of varints, counted byte by byte: how many values have a byte more, and the length of all where no varint counts more than so many bytes.
use Rattle.std.specs.Prelude.{ℕ, ◌+◌, ◌/◌, ◌^◌, ◌<◌, ◌≤◌, min, List, [], ◌∷◌, ℤ, pos, length, get_or}
use Rattle.format.specs.Keys.{zigzag}
use Rattle.format.specs.Varint.{varint_len}

-- how many ZigZags have a bit from `shift` on
unfoldable pub longer : ℕ → List ℤ → ℕ
longer shift [] = 0
longer shift (v ∷ vs) = min (zigzag v / 2 ^ shift) 1 + longer shift vs

-- no varint counts more than k bytes
unfoldable pub capped : ℕ → List ℤ → ℕ
capped k [] = 0
capped k (v ∷ vs) = min (varint_len v) k + capped k vs

-- no ZigZag is above `bits`
abbrev pub Within : List ℤ → ℕ → Type 0
Within column bits = (i : ℕ) → i < length column → zigzag (get_or column i (pos 0)) ≤ bits
