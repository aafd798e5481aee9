-- Columns of keys: the numbers that the layouts make of them (ZigZags, gaps, deltas) are below 2^64 or keys again, and give the column back. Each law is that of
-- one key (Keys), along the column.
use mathlib.Core.Path.{◌≡◌, refl, ap, ap₂}
use mathlib.Core.List.{List, [], ◌∷◌, map}
use Prim.Native.Nat.{suc, ◌^◌}
use lib.IntN.{ℤ, pos}
use lib.ListN.{length}
use Rattle.format.specs.Keys.{Key, Keys, gap, wrapping_add, zigzag, unzigzag}
use Rattle.format.specs.Folds.{deltas_from, deltas}
use Rattle.format.specs.Delta.{prefix_sums}
use Rattle.format.proofs.Numbers.All.{All, all_none, all_more, all-by, Below}
use Rattle.format.proofs.Numbers.Keys.{gap-lt, delta-key, wrapping_add-gap, wrapping_add-delta, unzigzag-zigzag, zigzag-lt}

-- the statement's columns of keys, element by element
pub keys-all : (column : List ℤ) → Keys column → All Key column
keys-all column k = all-by column (pos 0) k

-- ---- ZigZags

-- the ZigZags of keys are below 2^64
pub below-zigzags : {column : List ℤ} → All Key column → Below (2 ^ 64) (map zigzag column)
below-zigzags all_none = all_none
below-zigzags (all_more {x} h r) = all_more (zigzag-lt x h) (below-zigzags r)

-- and give the keys back
pub map-unzigzag : (column : List ℤ) → map unzigzag (map zigzag column) ≡ column
map-unzigzag [] = refl
map-unzigzag (v ∷ vs) = ap₂ {A = ℤ} {B = List ℤ} (λ x xs. x ∷ xs) (unzigzag-zigzag v) (map-unzigzag vs)

-- ---- gaps from one key

-- gaps are below 2^64
pub below-gaps : (low : ℤ) (column : List ℤ) → Below (2 ^ 64) (map (gap low) column)
below-gaps low [] = all_none
below-gaps low (v ∷ vs) = all_more (gap-lt low v) (below-gaps low vs)

-- and give the keys back, added to it again
pub map-wrapping_add : (low : ℤ) {column : List ℤ} → All Key column → map (λ n. wrapping_add low (pos n)) (map (gap low) column) ≡ column
map-wrapping_add low all_none = refl
map-wrapping_add low (all_more {x} h r) = ap₂ {A = ℤ} {B = List ℤ} (λ v vs. v ∷ vs) (wrapping_add-gap low x h) (map-wrapping_add low r)

-- ---- deltas

-- deltas are keys
deltas_from-keys : (last : ℤ) (column : List ℤ) → All Key (deltas_from last column)
unfolding deltas_from
deltas_from-keys last [] = all_none
deltas_from-keys last (v ∷ vs) = all_more (delta-key last v) (deltas_from-keys v vs)

pub deltas-keys : (column : List ℤ) → All Key (deltas column)
unfolding deltas
deltas-keys [] = all_none
deltas-keys (v ∷ vs) = deltas_from-keys v vs

-- so many as the values after the first
pub length-deltas_from : (last : ℤ) (column : List ℤ) → length (deltas_from last column) ≡ length column
unfolding deltas_from
length-deltas_from last [] = refl
length-deltas_from last (v ∷ vs) = ap suc (length-deltas_from v vs)

pub length-deltas : (v : ℤ) (vs : List ℤ) → length (deltas (v ∷ vs)) ≡ length vs
unfolding deltas
length-deltas v vs = length-deltas_from v vs

-- and give the keys back, summed again
pub prefix_sums-deltas : (last : ℤ) {column : List ℤ} → All Key column → prefix_sums last (deltas_from last column) ≡ column
unfolding prefix_sums deltas_from
prefix_sums-deltas last all_none = refl
prefix_sums-deltas last (all_more {x} {xs} h r) =
    rw (wrapping_add-delta last x h) (ap (λ (l : List ℤ). x ∷ l) (prefix_sums-deltas x r))
