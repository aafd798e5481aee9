-- What a scan over bytes finds, where it asks all of them at once and not one varint after the other: how many end a varint, and whether ten in a row are continued.
use Rattle.std.specs.Prelude.{ℕ, ◌+◌, ◌-◌, ◌/◌, ◌<◌, ◌≤◌, min, List, [], ◌∷◌, length, get_or}

-- a byte below 128 ends a varint
abbrev pub last : ℕ → ℕ
last b = 1 - b / 128

-- how many do
unfoldable pub lasts : List ℕ → ℕ
lasts [] = 0
lasts (b ∷ bs) = last b + lasts bs

-- the least of five bytes in a row, and of ten
unfoldable pub least5 : List ℕ → ℕ → ℕ
least5 s i = min (get_or s i 0) (min (get_or s (i + 1) 0) (min (get_or s (i + 2) 0) (min (get_or s (i + 3) 0) (get_or s (i + 4) 0))))

unfoldable pub least10 : List ℕ → ℕ → ℕ
least10 s i = min (least5 s i) (least5 s (i + 5))

-- a byte that ends a varint is among any ten in a row
abbrev pub NoTen : List ℕ → Type 0
NoTen s = (i : ℕ) → i + 10 ≤ length s → least10 s i < 128
