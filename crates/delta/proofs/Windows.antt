-- The deltas of a column, and of a window of it: the delta at a place is that of the two values there, and a window of n + 1 values has n of the column's deltas.
use mathlib.Core.Path.{◌≡◌, refl, ap}
use mathlib.Core.List.{List, [], ◌∷◌}
use Prim.Native.Nat.{ℕ, zero, suc, ◌+◌, ◌-◌, ◌≤◌, ◌<◌}
use native.Mathlib.Numerals.{add-one}
use native.Mathlib.Omega.{arith}
use lib.IntN.{ℤ, pos}
use lib.ListN.{length, get_or, take, drop, drop_of_length-le}
use lib.Seq.{drop-nil, take-nil}
use Rattle.format.specs.Keys.{delta}
use Rattle.format.specs.Folds.{deltas_from, deltas}
use Rattle.format.proofs.Numbers.Columns.{length-deltas_from}

-- as many as the values after the first
pub length-deltas : (column : List ℤ) → length (deltas column) ≡ length column - 1
unfolding deltas
length-deltas [] = refl
length-deltas (v ∷ vs) = omega (arith, length-deltas_from v vs)

-- the one at a place, and those after it
deltas-at : (column : List ℤ) (i : ℕ) → suc i < length column
    → drop i (deltas column) ≡ delta (get_or column i (pos 0)) (get_or column (suc i) (pos 0)) ∷ drop (suc i) (deltas column)
unfolding deltas deltas_from
deltas-at [] i h = absurd (omega arith)
deltas-at (v ∷ []) i h = absurd (omega arith)
deltas-at (v ∷ w ∷ vs) zero h = refl
deltas-at (v ∷ w ∷ vs) (suc i) h = deltas-at (w ∷ vs) i (omega arith)

pub next-delta : (column : List ℤ) (i : ℕ) → i + 1 < length column
    → drop i (deltas column) ≡ delta (get_or column i (pos 0)) (get_or column (i + 1) (pos 0)) ∷ drop (i + 1) (deltas column)
next-delta column i h = rw (add-one i) (deltas-at column i (omega arith))

pub no-delta : (column : List ℤ) (i : ℕ) → length column ≤ i + 1 → drop i (deltas column) ≡ []
no-delta column i h = drop_of_length-le (deltas column) {i = i} (omega (arith, length-deltas column))

-- a window
front : (last : ℤ) (column : List ℤ) (n : ℕ) → deltas_from last (take n column) ≡ take n (deltas_from last column)
unfolding deltas_from
front last column zero = refl
front last [] (suc n) = refl
front last (v ∷ vs) (suc n) = ap (λ (l : List ℤ). delta last v ∷ l) (front v vs n)

window : (column : List ℤ) (i n : ℕ) → deltas (take (suc n) (drop i column)) ≡ take n (drop i (deltas column))
unfolding deltas deltas_from
window [] i n = rw (drop-nil {A = ℤ} i, take-nil {A = ℤ} n)
window (v ∷ vs) zero n = front v vs n
window (v ∷ []) (suc i) n = rw (drop-nil {A = ℤ} i, take-nil {A = ℤ} n)
window (v ∷ w ∷ vs) (suc i) n = window (w ∷ vs) i n

-- the first n of a walk's deltas, and those after them
pub first-deltas : (rest : List ℤ) (n : ℕ) → deltas (take (n + 1) rest) ≡ take n (deltas rest)
first-deltas rest n = rw (add-one n) (window rest 0 n)

pub later-deltas : (rest : List ℤ) (n : ℕ) → deltas (drop n rest) ≡ drop n (deltas rest)
unfolding deltas deltas_from
later-deltas rest zero = refl
later-deltas [] (suc n) = refl
later-deltas (v ∷ []) (suc n) = rw (drop-nil {A = ℤ} n) refl
later-deltas (v ∷ w ∷ vs) (suc n) = later-deltas (w ∷ vs) n
