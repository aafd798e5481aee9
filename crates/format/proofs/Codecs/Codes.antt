-- Codes: each value of a column has its code among the column's distinct values. A value that stands in a list after lesser ones only has its place for its code;
-- inserting keeps that of every value, and gives it to the one inserted.
use mathlib.Core.Path.{◌≡◌, refl}
use mathlib.Core.Bool.{Bool, true, false, cond}
use Prim.Native.Nat.{◌<◌, suc-le-suc}
use native.Mathlib.Nat.{zero-lt-suc}
use mathlib.Core.List.{List, [], ◌∷◌}
use lib.IntN.{ℤ, pos}
use lib.Signed.{lt_z}
use lib.ListN.{length, get_or}
use Rattle.format.specs.Distinct.{insert, distinct_from, distinct}
use Rattle.format.specs.Dictionary.{code_of}
use Rattle.format.proofs.Numbers.Order.{lt_z-neither, lt_z-self, lt_z-trans}
use Rattle.format.proofs.Numbers.All.{All, all_none, all_more}

-- ---- a value and its code

-- v stands in a list, after lesser values only
pub data Ranked (v : ℤ) : List ℤ → Type 0 where
  here : {xs : List ℤ} → Ranked v (v ∷ xs)
  there : {x : ℤ} {xs : List ℤ} → lt_z x v ≡ true → Ranked v xs → Ranked v (x ∷ xs)

-- then its code is below their number,
pub code_of-lt : {v : ℤ} {xs : List ℤ} → Ranked v xs → code_of xs v < length xs
unfolding code_of
code_of-lt {v} (here {xs}) = rw (lt_z-self v) (zero-lt-suc (length xs))
code_of-lt (there e h) = rw e (suc-le-suc (code_of-lt h))

-- and stands for it
pub code_of-is : {v : ℤ} {xs : List ℤ} → Ranked v xs → get_or xs (code_of xs v) (pos 0) ≡ v
unfolding code_of
code_of-is {v} here = rw (lt_z-self v)
code_of-is (there e h) = rw e (code_of-is h)

-- what is inserted is ranked
self-step : (v x : ℤ) (xs : List ℤ) → Ranked v (insert v xs) → (t u : Bool) → lt_z x v ≡ t → lt_z v x ≡ u
    → Ranked v (cond t (x ∷ insert v xs) (cond u (v ∷ x ∷ xs) (x ∷ xs)))
self-step v x xs ih true u e f = there e ih
self-step v x xs ih false true e f = here
self-step v x xs ih false false e f = rw (lt_z-neither x v e f) here

pub ranked-self : (v : ℤ) (xs : List ℤ) → Ranked v (insert v xs)
unfolding insert
ranked-self v [] = here
ranked-self v (x ∷ xs) = self-step v x xs (ranked-self v xs) (lt_z x v) (lt_z v x) refl refl

-- what was ranked still is
here-step : (w v : ℤ) (xs : List ℤ) (t u : Bool) → lt_z w v ≡ u → Ranked v (cond t (v ∷ insert w xs) (cond u (w ∷ v ∷ xs) (v ∷ xs)))
here-step w v xs true u f = here
here-step w v xs false true f = there f here
here-step w v xs false false f = here

there-step : (w v x : ℤ) (xs : List ℤ) → lt_z x v ≡ true → Ranked v xs → Ranked v (insert w xs) → (t u : Bool) → lt_z w x ≡ u
    → Ranked v (cond t (x ∷ insert w xs) (cond u (w ∷ x ∷ xs) (x ∷ xs)))
there-step w v x xs e h ih true u f = there e ih
there-step w v x xs e h ih false true f = there (lt_z-trans w x v f e) (there e h)
there-step w v x xs e h ih false false f = there e h

pub ranked-keep : {v : ℤ} {xs : List ℤ} (w : ℤ) → Ranked v xs → Ranked v (insert w xs)
unfolding insert
ranked-keep {v} w (here {xs}) = here-step w v xs (lt_z v w) (lt_z w v) refl
ranked-keep {v} w (there {x} {xs} e h) = there-step w v x xs e h (ranked-keep w h) (lt_z x w) (lt_z w x) refl

-- ---- the walk over a column

-- what is ranked stays so to the end
ranked-from : {v : ℤ} {held : List ℤ} (vs : List ℤ) → Ranked v held → Ranked v (distinct_from held vs)
unfolding distinct_from
ranked-from [] h = h
ranked-from {v = v} {held = held} (w ∷ vs) h = ranked-from {v = v} {held = insert w held} vs (ranked-keep w h)

-- each value met is ranked at the end
ranked-each : (held vs : List ℤ) → All (λ v. Ranked v (distinct_from held vs)) vs
unfolding distinct_from
ranked-each held [] = all_none
ranked-each held (v ∷ vs) = all_more (ranked-from vs (ranked-self v held)) (ranked-each (insert v held) vs)

-- each value of a column is ranked among its distinct values
pub distinct-ranked : (column : List ℤ) → All (λ v. Ranked v (distinct column)) column
unfolding distinct
distinct-ranked column = ranked-each [] column
