-- Filling a column from the deltas of blocks: the values after the one that was stored last.
use Rattle.std.specs.Prelude.{◌≡◌, refl, List, [], map, ℕ, ◌+◌, ℤ, pos, get_or}
use Rattle.std.proofs.lemmas.List.Edits.{sets}
use Rattle.format.specs.Keys.{wrapping_add}
use Rattle.format.specs.Delta.{prefix_sums}

-- deltas by the least of them and the offsets from it
unfoldable pub from_least : ℤ → List ℕ → List ℤ
from_least low offsets = map (λ n. wrapping_add low (pos n)) offsets

-- the values behind `last` by them
unfoldable pub running : ℤ → ℤ → List ℕ → List ℤ
running last low offsets = prefix_sums last (from_least low offsets)

pub running-none : (last low : ℤ) → running last low [] ≡ []
unfolding running from_least prefix_sums
running-none last low = refl

-- the column, when the values by these deltas are stored behind the value at `last`
unfoldable pub summed : List ℤ → ℕ → List ℤ → List ℤ
summed column last ds = sets column (last + 1) (prefix_sums (get_or column last (pos 0)) ds)
