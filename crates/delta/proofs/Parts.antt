-- How many deltas a packed body has.
use mathlib.Core.Path.{◌≡◌, ◌∙◌}
use mathlib.Core.List.{List}
use Prim.Native.Nat.{ℕ}
use lib.IntN.{ℤ, pos}
use lib.ListN.{length, length-map}
use Rattle.format.specs.Keys.{wrapping_add}
use Rattle.format.specs.Packing.{packed_values}
use Rattle.format.proofs.Codecs.Counts.{length-packed_values}
use Rattle.delta.specs.Summed.{from_least}

-- as many deltas as offsets
pub length-from_least : (low : ℤ) (offsets : List ℕ) → length (from_least low offsets) ≡ length offsets
unfolding from_least
length-from_least low offsets = length-map offsets (λ n. wrapping_add low (pos n))

-- of a packed body
pub length-packed_deltas : (low : ℤ) (s : List ℕ) (at w n : ℕ) → length (from_least low (packed_values s at w n)) ≡ n
length-packed_deltas low s at w n = length-from_least low (packed_values s at w n) ∙ length-packed_values s at w n
