-- The least, the greatest and the largest of a list bound its elements and are among them. So a part has no wider span than the whole, numbers fit the width of
-- the largest, and the largest gap and the largest ZigZag of a column are those of its least and greatest value.
use mathlib.Core.Path.{◌≡◌, refl, ◌∙◌}
use mathlib.Core.List.{List, [], ◌∷◌, ◌++◌, map}
use Prim.Native.Nat.{ℕ, ◌%◌, ◌^◌, ◌≤◌, ◌<◌, max, zero-le}
use native.Mathlib.Nat.{le_trans, le_antisymm, le-max_left, le-max_right, max-le, zero-lt-suc, lt_of_le_of_lt, mod-eq_of_lt}
use native.Mathlib.Omega.{arith}
use lib.IntN.{ℤ, pos}
use lib.Dec.{lit<}
use lib.Signed.{◌≤ℤ◌, ≤ℤ_refl}
use lib.ListN.{length}
use Rattle.format.specs.Keys.{gap, zigzag, lesser, greater, Key}
use Rattle.format.specs.Varint.{varint_len}
use Rattle.format.specs.Width.{width}
use Rattle.format.specs.Packing.{packed, unpacked}
use Rattle.format.specs.Folds.{least_from, least, greatest_from, greatest, largest}
use Rattle.format.proofs.Numbers.All.{Below, All, all_none, all_more, all-imp, all_map, all-unmap, all_both, map-id}
use Rattle.format.proofs.Numbers.Packing.{unpacked-packed}
use Rattle.format.proofs.Numbers.Widths.{width-lt}
use Rattle.format.proofs.Numbers.Order.{≤ℤ-trans, lesser-left, lesser-right, lesser-has, greater-left, greater-right, greater-has, gap-upper, gap-inside, zigzag-between, varint_len-between}

-- ---- the least

least_from-start : (m : ℤ) (vs : List ℤ) → least_from m vs ≤ℤ m
unfolding least_from
least_from-start m [] = ≤ℤ_refl m
least_from-start m (v ∷ vs) = ≤ℤ-trans (least_from-start (lesser m v) vs) (lesser-left m v)

least_from-all : (m : ℤ) (vs : List ℤ) → All (λ v. least_from m vs ≤ℤ v) vs
unfolding least_from
least_from-all m [] = all_none
least_from-all m (v ∷ vs) = all_more (≤ℤ-trans (least_from-start (lesser m v) vs) (lesser-right m v)) (least_from-all (lesser m v) vs)

least_from-has : (P : ℤ → Type 0) (m : ℤ) {vs : List ℤ} → P m → All P vs → P (least_from m vs)
unfolding least_from
least_from-has P m p all_none = p
least_from-has P m p (all_more {x} {xs} h r) = least_from-has P (lesser m x) (lesser-has m x P p h) r

-- the least is at most every element
pub least-all : (column : List ℤ) → All (λ v. least column ≤ℤ v) column
unfolding least
least-all [] = all_none
least-all (v ∷ vs) = all_more (least_from-start v vs) (least_from-all v vs)

-- it is an element: what holds of every element holds of it, or the list is empty
pub least-has : (P : ℤ → Type 0) {column : List ℤ} → 0 < length column → All P column → P (least column)
unfolding least
least-has P {column = []} q all_none = absurd (omega arith)
least-has P {column = v ∷ vs} q (all_more h r) = least_from-has P v h r

-- ---- the greatest

greatest_from-start : (m : ℤ) (vs : List ℤ) → m ≤ℤ greatest_from m vs
unfolding greatest_from
greatest_from-start m [] = ≤ℤ_refl m
greatest_from-start m (v ∷ vs) = ≤ℤ-trans (greater-left m v) (greatest_from-start (greater m v) vs)

greatest_from-all : (m : ℤ) (vs : List ℤ) → All (λ v. v ≤ℤ greatest_from m vs) vs
unfolding greatest_from
greatest_from-all m [] = all_none
greatest_from-all m (v ∷ vs) = all_more (≤ℤ-trans (greater-right m v) (greatest_from-start (greater m v) vs)) (greatest_from-all (greater m v) vs)

greatest_from-has : (P : ℤ → Type 0) (m : ℤ) {vs : List ℤ} → P m → All P vs → P (greatest_from m vs)
unfolding greatest_from
greatest_from-has P m p all_none = p
greatest_from-has P m p (all_more {x} {xs} h r) = greatest_from-has P (greater m x) (greater-has m x P p h) r

-- the greatest is at least every element
pub greatest-all : (column : List ℤ) → All (λ v. v ≤ℤ greatest column) column
unfolding greatest
greatest-all [] = all_none
greatest-all (v ∷ vs) = all_more (greatest_from-start v vs) (greatest_from-all v vs)

-- it is an element
pub greatest-has : (P : ℤ → Type 0) {column : List ℤ} → 0 < length column → All P column → P (greatest column)
unfolding greatest
greatest-has P {column = []} q all_none = absurd (omega arith)
greatest-has P {column = v ∷ vs} q (all_more h r) = greatest_from-has P v h r

-- ---- both

-- of keys both are keys (0 for the empty column)
pub least-key : {column : List ℤ} → All Key column → Key (least column)
unfolding least
least-key all_none = lit< tt
least-key (all_more {x} h r) = least_from-has Key x h r

pub greatest-key : {column : List ℤ} → All Key column → Key (greatest column)
unfolding greatest
greatest-key all_none = lit< tt
greatest-key (all_more {x} h r) = greatest_from-has Key x h r

-- the least is at most the greatest
pub least-greatest : (column : List ℤ) → least column ≤ℤ greatest column
unfolding least greatest
least-greatest [] = ≤ℤ_refl (pos 0)
least-greatest (v ∷ vs) = ≤ℤ-trans (least_from-start v vs) (greatest_from-start v vs)

-- ---- a part against the whole: elements that are all among the whole's bounds

pub least-part : (whole : List ℤ) {part : List ℤ} → 0 < length part → All (λ v. least whole ≤ℤ v) part → least whole ≤ℤ least part
least-part whole q r = least-has (λ v. least whole ≤ℤ v) q r

pub greatest-part : (whole : List ℤ) {part : List ℤ} → 0 < length part → All (λ v. v ≤ℤ greatest whole) part → greatest part ≤ℤ greatest whole
greatest-part whole q r = greatest-has (λ v. v ≤ℤ greatest whole) q r

-- the span of a part of keys is at most the whole's
pub span-part : (whole part : List ℤ) → All Key whole → All Key part → 0 < length part
    → All (λ v. least whole ≤ℤ v) part → All (λ v. v ≤ℤ greatest whole) part → gap (least part) (greatest part) ≤ gap (least whole) (greatest whole)
span-part whole part k j q r s =
    gap-inside (least whole) (least part) (greatest part) (greatest whole) (least-key k) (least-key j) (greatest-key j) (greatest-key k)
    (least-part whole q r) (least-greatest part) (greatest-part whole q s)

-- and its least has no longer varint than the longer of the whole's least's and greatest's
pub varint_len-part : (whole part : List ℤ) → All Key whole → 0 < length part → All (λ v. least whole ≤ℤ v) part → All (λ v. v ≤ℤ greatest whole) part
    → varint_len (least part) ≤ max (varint_len (least whole)) (varint_len (greatest whole))
varint_len-part whole part k q r s =
    varint_len-between (least whole) (least part) (greatest whole) (least-key k) (greatest-key k)
    (least-part whole q r) (least-has (λ v. v ≤ℤ greatest whole) q s)

-- ---- the largest of some numbers

-- it bounds each
pub largest-all : (ns : List ℕ) → All (λ n. n ≤ largest ns) ns
unfolding largest
largest-all [] = all_none
largest-all (n ∷ ns) = all_more (le-max_left n (largest ns)) (all-imp (λ m h. le_trans h (le-max_right n (largest ns))) (largest-all ns))

-- a bound of each bounds it
pub largest-le : (b : ℕ) {ns : List ℕ} → All (λ n. n ≤ b) ns → largest ns ≤ b
unfolding largest
largest-le b all_none = zero-le
largest-le b (all_more h r) = max-le h (largest-le b r)

pub largest-lt : (b : ℕ) {ns : List ℕ} → 0 < b → Below b ns → largest ns < b
unfolding largest
largest-lt b q all_none = q
largest-lt b q (all_more h r) = let k = largest-lt b q r in omega arith

-- numbers below 2^64 are below 2 to the width of the largest
pub below-widest : {ns : List ℕ} → Below (2 ^ 64) ns → Below (2 ^ width (largest ns)) ns
below-widest {ns} r =
    let k : largest ns < 2 ^ width (largest ns) = width-lt (largest ns) (largest-lt (2 ^ 64) (lit< tt) r) in
    (all-imp (λ n h. lt_of_le_of_lt h k) (largest-all ns))

-- what is below a bound is its own remainder
pub mod_below : {b : ℕ} {ns : List ℕ} → Below b ns → map (λ n. n % b) ns ≡ ns
mod_below r = map-id (all-imp (λ n h. mod-eq_of_lt h) r)

-- so packing at that width loses nothing
pub unpacked-widest : (ns rest : List ℕ) → Below (2 ^ 64) ns → unpacked (width (largest ns)) (length ns) (packed (width (largest ns)) ns ++ rest) ≡ ns
unpacked-widest ns rest r = unpacked-packed (width (largest ns)) ns rest ∙ mod_below (below-widest r)

-- ---- the largest gap and the largest ZigZag of a column

-- the largest gap from the least is that to the greatest
module _ (column : List ℤ) (k : All Key column) (q : 0 < length column) where
  gaps-up : largest (map (gap (least column)) column) ≤ gap (least column) (greatest column)
  gaps-up =
      largest-le (gap (least column) (greatest column))
      (all_map (gap (least column))
      (all-imp (λ v h. gap-upper (least column) v (greatest column) (least-key k) h.0 (greatest-key k) h.1.0 h.1.1)
      (all_both k (all_both (least-all column) (greatest-all column)))))

  gaps-down : gap (least column) (greatest column) ≤ largest (map (gap (least column)) column)
  gaps-down = greatest-has (λ v. gap (least column) v ≤ largest (map (gap (least column)) column)) q (all-unmap (gap (least column)) column (largest-all (map (gap (least column)) column)))

pub largest-gaps : (column : List ℤ) → All Key column → largest (map (gap (least column)) column) ≡ gap (least column) (greatest column)
unfolding largest least greatest gap
largest-gaps [] k = refl
largest-gaps (v ∷ vs) k =
    let q : 0 < length (v ∷ vs) = zero-lt-suc (length vs) in
    le_antisymm (gaps-up (v ∷ vs) k q) (gaps-down (v ∷ vs) k q)

-- the largest ZigZag is that of the least or of the greatest
module _ (column : List ℤ) (q : 0 < length column) where
  zigzags-up : largest (map zigzag column) ≤ max (zigzag (least column)) (zigzag (greatest column))
  zigzags-up =
      largest-le (max (zigzag (least column)) (zigzag (greatest column)))
      (all_map zigzag (all-imp (λ v h. zigzag-between (least column) v (greatest column) h.0 h.1) (all_both (least-all column) (greatest-all column))))

  zigzags-down : max (zigzag (least column)) (zigzag (greatest column)) ≤ largest (map zigzag column)
  zigzags-down =
      let r : All (λ v. zigzag v ≤ largest (map zigzag column)) column = all-unmap zigzag column (largest-all (map zigzag column)) in
      max-le (least-has (λ v. zigzag v ≤ largest (map zigzag column)) q r) (greatest-has (λ v. zigzag v ≤ largest (map zigzag column)) q r)

pub largest-zigzags : (column : List ℤ) → largest (map zigzag column) ≡ max (zigzag (least column)) (zigzag (greatest column))
unfolding largest least greatest
largest-zigzags [] = refl
largest-zigzags (v ∷ vs) =
    let q : 0 < length (v ∷ vs) = zero-lt-suc (length vs) in
    le_antisymm (zigzags-up (v ∷ vs) q) (zigzags-down (v ∷ vs) q)
