-- The least and the greatest delta of a window in one walk: the least of what was found and of what is left is the least of all, and so with the greatest. And the
-- offsets of a window's deltas from the least, stored one by one.
use mathlib.Core.Path.{◌≡◌, sym, ap, ◌∙◌}
use mathlib.Core.List.{List, [], ◌∷◌, map}
use Prim.Native.Nat.{ℕ, ◌+◌, ◌≤◌, ◌<◌}
use native.Mathlib.Omega.{arith}
use lib.IntN.{ℤ, pos}
use lib.ListN.{length, get_or, set, drop}
use Rattle.format.specs.Keys.{gap, delta, lesser, greater}
use Rattle.format.specs.Folds.{least_from, least, greatest_from, greatest, deltas}
use Rattle.format.proofs.Numbers.Stores.{Storing, storing-one}
use Rattle.delta.proofs.Windows.{next-delta, no-delta}

-- low and high are those of the deltas before i
pub record Bounding (window : List ℤ) (low high : ℤ) (i : ℕ) : Type 0 where
  pub lows : least_from low (drop i (deltas window)) ≡ least (deltas window)
  pub highs : greatest_from high (drop i (deltas window)) ≡ greatest (deltas window)

-- the delta at a place of a window
abbrev at : List ℤ → ℕ → ℤ
at window i = delta (get_or window i (pos 0)) (get_or window (i + 1) (pos 0))

module _ (window : List ℤ) where
  pub bounding-first : 2 ≤ length window → Bounding window (at window 0) (at window 0) 1
  unfolding least greatest
  bounding-first h =
      let e : deltas window ≡ at window 0 ∷ drop 1 (deltas window) = next-delta window 0 (omega arith) in
      record { lows = sym (ap least e); highs = sym (ap greatest e) }

  module _ {low high : ℤ} (i : ℕ) (b : Bounding window low high i) where
    pub bounding-more : i + 1 < length window → Bounding window (lesser low (at window i)) (greater high (at window i)) (i + 1)
    unfolding least_from greatest_from
    bounding-more h =
        let e : drop i (deltas window) ≡ at window i ∷ drop (i + 1) (deltas window) = next-delta window i h in
        record { lows = ap (least_from low) (sym e) ∙ b.lows; highs = ap (greatest_from high) (sym e) ∙ b.highs }

    pub bounding-done : length window ≤ i + 1 → (low ≡ least (deltas window)) × (high ≡ greatest (deltas window))
    unfolding least_from greatest_from
    bounding-done h =
        let e : drop i (deltas window) ≡ [] = no-delta window i h in
        (ap (least_from low) (sym e) ∙ b.lows, ap (greatest_from high) (sym e) ∙ b.highs)

  -- ---- offsets

  pub offset-more : {whole l out : List ℕ} (low : ℤ) (i : ℕ) {v : ℕ} → Storing whole l 0 (map (gap low) (drop i (deltas window))) out i → i + 1 < length window
      → v ≡ gap low (at window i) → Storing whole l 0 (map (gap low) (drop (i + 1) (deltas window))) (set out i v) (i + 1)
  offset-more low i {v} s h e =
      storing-one s v (map (gap low) (drop (i + 1) (deltas window))) (ap (map (gap low)) (next-delta window i h) ∙ rw e)

  pub offset-none : (low : ℤ) (i : ℕ) → length window ≤ i + 1 → map (gap low) (drop i (deltas window)) ≡ []
  offset-none low i h = ap (map (gap low)) (no-delta window i h)
