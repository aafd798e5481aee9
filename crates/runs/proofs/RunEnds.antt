-- Where a run of a column ends: the walk of `runs_from` keeps the key it began with and counts on while the values are the same, and another value, or the
-- column's end, closes the run. The machine's test of two keys compares their bits, which are the same where the keys are.
use mathlib.Core.Path.{◌≡◌, refl, sym, ap, ◌∙◌}
use mathlib.Core.Bool.{Bool, true, false, ◌&&◌, and-true}
use mathlib.Core.List.{List, [], ◌∷◌}
use Prim.Native.Nat.{ℕ, zero, suc, ◌+◌, ◌^◌, ◌≤◌, ◌<◌}
use native.Mathlib.Nat.{add-zero}
use native.Mathlib.Numerals.{add-one}
use native.Mathlib.Omega.{arith}
use lib.Dec.{eqb}
use lib.IntN.{ℤ, pos}
use lib.Signed.{mag}
use lib.ListN.{length, get_or, take, drop, drop_of_length-le}
use lib.Seq.{drop-cons}
use Rattle.std.specs.Prelude.{map}
use Rattle.std.specs.List.{list_all}
use Rattle.std.proofs.lemmas.Bool.{and_parts}
use Rattle.std.proofs.lemmas.List.Folds.{list_all-append}
use Rattle.std.proofs.lemmas.List.{take_more}
use mir.Syntax.{w64}
use borrow.Author.Rules.{sfits_of}
use mir.Val.{to_z, of_z}
use mir.Facts.{to_z-of_z}
use Rattle.format.specs.Keys.{eq_z}
use Rattle.format.specs.Runs.{Run, runs_from, runs}
use Rattle.format.proofs.Numbers.Order.{eq_z-true}
use Rattle.number.proofs.Signed.{same_bits}
use Rattle.runs.specs.RunAt.{run_of, Running, FirstRun, same_key, parts, to_come}
use Rattle.runs.specs.declared.writing.Runs.{Runs}

-- a walk meets the same value once more,
walk_same : (key v : ℤ) (times : ℕ) (vs : List ℤ) → eq_z key v ≡ true → runs_from key times (v ∷ vs) ≡ runs_from key (times + 1) vs
unfolding runs_from
walk_same key v times vs e = rw (e, eq_z-true key v e)

-- or another, with which the next run begins
walk-other : (key v : ℤ) (times : ℕ) (vs : List ℤ) → eq_z key v ≡ false → runs_from key times (v ∷ vs) ≡ record { key = key; times = times } ∷ runs (v ∷ vs)
unfolding runs_from runs
walk-other key v times vs e = rw e

-- keys that were read are compared by their bits
pub same_key_lem : (values : List ℤ) (at : ℕ) → mag (get_or values 0 (pos 0)) < 2 ^ 63 → mag (get_or values at (pos 0)) < 2 ^ 63
    → eqb (of_z w64 (get_or values 0 (pos 0))) (of_z w64 (get_or values at (pos 0))) ≡ same_key values at
same_key_lem values at f g = same_bits (get_or values 0 (pos 0)) (get_or values at (pos 0)) f g

-- a run begins with one value
pub running_one : (values : List ℤ) → 0 < length values → Running values 1
unfolding runs
running_one [] h = absurd (omega (arith, h))
running_one (v ∷ vs) h = record { some = omega arith; within = omega (arith, h); whole = refl }

module _ (values : List ℤ) where
  module _ {end : ℕ} (r : Running values end) where
    -- the values' end
    pub running_last : length values ≤ end → FirstRun values end
    unfolding runs_from runs
    running_last h = record { some = r.some; within = r.within; first = r.whole ∙ rw (drop_of_length-le values h) }

    module _ (h : end < length values) where
      from_end : drop end values ≡ get_or values end (pos 0) ∷ drop (end + 1) values
      from_end = rw (add-one end) (drop-cons values end (pos 0) h)

      -- the same value once more
      pub running_more : same_key values end ≡ true → Running values (end + 1)
      running_more e =
          record {
            some = omega (arith, r.some);
            within = omega arith;
            whole = r.whole ∙ ap (runs_from _ _) from_end ∙ walk_same _ _ _ _ e;
          }

      -- another value
      pub running_other : same_key values end ≡ false → FirstRun values end
      running_other e =
          record {
            some = r.some;
            within = r.within;
            first =
                r.whole
                ∙ ap (runs_from _ _) from_end
                ∙ walk-other _ _ _ _ e
                ∙ ap (λ (l : List ℤ). run_of values end ∷ runs l) (sym from_end);
          }

-- ---- eight at a time

-- n values more, which are all the key
pub running_several : (values : List ℤ) {end : ℕ} → Running values end → (n : ℕ) → end + n ≤ length values
    → list_all (eq_z (get_or values 0 (pos 0))) (take n (drop end values)) ≡ true → Running values (end + n)
running_several values {end} r zero h e = rw (add-zero end) r
running_several values {end} r (suc n) h e =
    let here : end < length values = omega arith in
    let all = and_parts (same_key values end) _ (rw (from_end values r here) at e) in
    let more = running_more values r here all.0 in
    let next : end + 1 + n ≡ end + suc n = omega arith in
    rw next at (running_several values {end = end + 1} more n (omega arith) all.1)

-- eight, by the key's bits
pub running_eight : (values : List ℤ) {end : ℕ} → Running values end → {key : ℤ} → key ≡ get_or values 0 (pos 0) → {n : ℕ} → n ≡ 8 → end + 8 ≤ length values
    → true ≡ list_all (eq_z key) (take n (drop end values)) → Running values (end + 8)
running_eight values r k many h e = running_several values r 8 h (sym (rw (k, many) at e))

-- the values that were asked so far
pub all_none : (key : ℤ) (values : List ℤ) → list_all (eq_z key) (take 0 values) ≡ true
all_none key values = refl

pub all_more : (key : ℤ) (values : List ℤ) (i : ℕ) → i < length values
    → list_all (eq_z key) (take (i + 1) values) ≡ (list_all (eq_z key) (take i values) && eq_z key (get_or values i (pos 0)))
all_more key values i h =
    ap (list_all (eq_z key)) (take_more values i (pos 0) h)
    ∙ list_all-append (eq_z key) (take i values) (get_or values i (pos 0) ∷ [])
    ∙ ap (λ (b : Bool). list_all (eq_z key) (take i values) && b) (and-true (eq_z key (get_or values i (pos 0))))

-- ---- the walk

-- a run by its parts, and the runs that a walk has left by theirs
abbrev pub of_parts : ℤ × ℕ → Run
of_parts p = record { key = p.0; times = p.1 }

back : (rs : List Run) → map of_parts (map parts rs) ≡ rs
back [] = refl
back (r ∷ rs) = ap (λ (ss : List Run). r ∷ ss) (back rs)

-- none is left
pub none_left : (r : Runs) → length r.0.now ≡ 0 → to_come r ≡ []
unfolding to_come runs
none_left r h = go r.0.now h
  where
    go : (l : List ℤ) → length l ≡ 0 → map parts (runs l) ≡ []
    go [] h = refl
    go (v ∷ vs) h = absurd (omega (arith, h))

pub none_after : (r : Runs) → to_come r ≡ [] → runs r.0.now ≡ []
unfolding to_come
none_after r e = sym (back (runs r.0.now)) ∙ ap (map of_parts) e

-- one is taken
pub taken : (r rest : Runs) {k : ℤ} {t : ℕ} → to_come r ≡ (k, t) ∷ to_come rest → runs r.0.now ≡ record { key = k; times = t } ∷ runs rest.0.now
unfolding to_come
taken r rest {k} {t} e =
    sym (back (runs r.0.now)) ∙ ap (map of_parts) e ∙ ap (λ (rs : List Run). record { key = k; times = t } ∷ rs) (back (runs rest.0.now))

-- the first run is taken; its key is handed on by its bits
pub first_taken : (r rest : Runs) {k : ℤ} {t : ℕ} → FirstRun r.0.now t → mag k < 2 ^ 63 → k ≡ get_or r.0.now 0 (pos 0) → rest.0.now ≡ drop t r.0.now
    → to_come r ≡ (to_z w64 (of_z w64 k), t) ∷ to_come rest
unfolding to_come
first_taken r rest {k} f fits key e = rw (to_z-of_z {z = k} (sfits_of fits), key, e) (ap (map parts) f.first)

pub fewer : (r rest : Runs) {k : ℤ} {t : ℕ} → FirstRun r.0.now t → mag k < 2 ^ 63 → k ≡ get_or r.0.now 0 (pos 0) → rest.0.now ≡ drop t r.0.now
    → length (to_come rest) < length (to_come r)
fewer r rest f fits key e = omega (arith, ap length (first_taken r rest f fits key e))
