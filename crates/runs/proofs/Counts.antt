-- Counting the runs of a column: a walk along runs ends one at each value that is not the one before, whatever length it has counted for the run that it is in.
use mathlib.Core.Path.{◌≡◌, refl, ap, ◌∙◌}
use mathlib.Core.Bool.{Bool, true, false, cond}
use mathlib.Core.List.{List, [], ◌∷◌, ◌++◌}
use Prim.Native.Nat.{ℕ, ◌+◌, ◌-◌, ◌≤◌, ◌<◌}
use native.Mathlib.Numerals.{add-one}
use native.Mathlib.Omega.{arith}
use lib.IntN.{ℤ, pos}
use lib.ListN.{length, get_or, drop, drop_of_length-le}
use lib.Seq.{drop-cons}
use Rattle.format.specs.Keys.{eq_z}
use Rattle.format.specs.Runs.{runs_from, runs}
use Rattle.format.proofs.Codecs.RunLength.{length_runs}

-- how many runs a walk ends does not depend on the length that it has counted
count-any : (key : ℤ) (times other : ℕ) (vs : List ℤ) → length (runs_from key times vs) ≡ length (runs_from key other vs)
unfolding runs_from
count-any key times other [] = refl
count-any key times other (v ∷ vs) = go (eq_z key v) (λ t u. count-any v t u vs)
  where
    go : (t : Bool) → ((m n : ℕ) → length (runs_from v m vs) ≡ length (runs_from v n vs))
        → length (cond t [] (record { key = key; times = times } ∷ []) ++ runs_from v (cond t (times + 1) 1) vs)
        ≡ length (cond t [] (record { key = key; times = other } ∷ []) ++ runs_from v (cond t (other + 1) 1) vs)
    go true same = same (times + 1) (other + 1)
    go false same = refl

-- another value is another run
count_next : (key v : ℤ) (vs : List ℤ) → length (runs_from key 1 (v ∷ vs)) ≡ cond (eq_z key v) 0 1 + length (runs_from v 1 vs)
unfolding runs_from
count_next key v vs = go (eq_z key v) (count-any v 2 1 vs)
  where
    go : (t : Bool) → length (runs_from v 2 vs) ≡ length (runs_from v 1 vs)
        → length (cond t [] (record { key = key; times = 1 } ∷ []) ++ runs_from v (cond t (1 + 1) 1) vs) ≡ cond t 0 1 + length (runs_from v 1 vs)
    go true same = omega (arith, same)
    go false same = omega arith

count-one : (key : ℤ) (vs : List ℤ) → 1 ≤ length (runs_from key 1 vs)
unfolding runs_from
count-one key [] = omega arith
count-one key (v ∷ vs) = go (eq_z key v) (count-one v vs) (count-any v 2 1 vs)
  where
    go : (t : Bool) → 1 ≤ length (runs_from v 1 vs) → length (runs_from v 2 vs) ≡ length (runs_from v 1 vs)
        → 1 ≤ length (cond t [] (record { key = key; times = 1 } ∷ []) ++ runs_from v (cond t (1 + 1) 1) vs)
    go true some same = omega (arith, some, same)
    go false some same = omega arith

-- the runs that end at place i or after it, if one began just before i
unfoldable pub left : List ℤ → ℕ → ℕ
left column i = length (runs_from (get_or column (i - 1) (pos 0)) 1 (drop i column))

-- the first value begins a run
pub left_first : (column : List ℤ) → (length column ≡ 0 → ⊥) → left column 1 ≡ length (runs column)
unfolding runs left
left_first [] h = absurd (h refl)
left_first (v ∷ vs) h = refl

module _ (column : List ℤ) where
  -- no more runs than values
  pub runs_most : length (runs column) ≤ length column
  runs_most = omega (arith, length_runs column)

  module _ (i : ℕ) where
    -- a value more
    pub left_next : 1 ≤ i → i < length column → left column i ≡ cond (eq_z (get_or column (i - 1) (pos 0)) (get_or column i (pos 0))) 0 1 + left column (i + 1)
    unfolding left
    left_next some h =
        let here : i + 1 - 1 ≡ i = omega arith in
        rw (here, add-one i)
        (ap (λ (l : List ℤ). length (runs_from (get_or column (i - 1) (pos 0)) 1 l)) (drop-cons column i (pos 0) h)
        ∙ count_next (get_or column (i - 1) (pos 0)) (get_or column i (pos 0)) _)

    pub left_some : 1 ≤ left column i
    unfolding left
    left_some = count-one (get_or column (i - 1) (pos 0)) (drop i column)

    -- none
    pub left_end : length column ≤ i → left column i ≡ 1
    unfolding left runs_from
    left_end h = rw (drop_of_length-le column h)
