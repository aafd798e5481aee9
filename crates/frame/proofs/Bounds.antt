-- A loop that finds the least and the greatest value of a column: the least of what was found and what is left is the whole's, and so is the greatest (`Bounded`).
-- Every value is a key, so the largest difference from the least is that of the greatest.
use mathlib.Core.Path.{◌≡◌, sym, ap, ap₂, ◌∙◌}
use mathlib.Core.List.{List, [], ◌∷◌, ◌++◌, map}
use Prim.Native.Nat.{ℕ, ◌+◌, ◌≤◌, ◌<◌, zero-le}
use native.Mathlib.Numerals.{add-one}
use native.Mathlib.Omega.{arith}
use lib.IntN.{ℤ, pos}
use lib.ListN.{length, get_or, take, drop, drop_of_length-le}
use lib.Seq.{drop-cons, take-suc, take_all}
use Rattle.format.specs.Keys.{Key, gap, lesser, greater}
use Rattle.format.specs.Width.{width}
use Rattle.format.specs.Folds.{least_from, least, greatest_from, greatest, largest}
use Rattle.format.proofs.Numbers.All.{All, all_none, all_more}
use Rattle.format.proofs.Numbers.Extremes.{largest-gaps}
use Rattle.format.proofs.Numbers.Order.{lesser-same, greater-same}
use Rattle.frame.specs.Fit.{Fitted}
use Rattle.frame.specs.declared.writing.Fit.{Fit}

-- `low` and `high` are found of the first i values
pub record Bounded (column : List ℤ) (low high : ℤ) (i : ℕ) : Type 0 where
  pub passed : i ≤ length column
  pub below : least_from low (drop i column) ≡ least column
  pub above : greatest_from high (drop i column) ≡ greatest column
  pub keys : All Key (take i column)

all_snoc : {xs : List ℤ} (v : ℤ) → All Key xs → Key v → All Key (xs ++ (v ∷ []))
all_snoc v all_none k = all_more k all_none
all_snoc v (all_more h r) k = all_more h (all_snoc v r k)

pub fitted_none : {column : List ℤ} {r : Fit} → length column ≡ 0 → r.least ≡ pos 0 → r.width.bits ≡ width 0 → Fitted column r
unfolding least largest
fitted_none {column = []} e base widest = record { base = base; widest = widest }
fitted_none {column = v ∷ vs} e base widest = absurd (omega arith)

-- the first value is the least and the greatest of none
pub bounded_none : (column : List ℤ) → 0 < length column → Bounded column (get_or column 0 (pos 0)) (get_or column 0 (pos 0)) 0
unfolding least greatest least_from greatest_from
bounded_none [] h = absurd (omega arith)
bounded_none (v ∷ vs) h =
    record {
      passed = zero-le;
      below = ap (λ (z : ℤ). least_from z vs) (lesser-same v);
      above = ap (λ (z : ℤ). greatest_from z vs) (greater-same v);
      keys = all_none;
    }

module _ {column : List ℤ} {low high : ℤ} {i : ℕ} (b : Bounded column low high i) where
  pub bounded-more : i < length column → Key (get_or column i (pos 0)) → {least greatest : ℤ}
      → least ≡ lesser low (get_or column i (pos 0)) → greatest ≡ greater high (get_or column i (pos 0)) → Bounded column least greatest (i + 1)
  unfolding least_from greatest_from
  bounded-more h k el eg =
      let v : ℤ = get_or column i (pos 0) in
      let rest : v ∷ drop (i + 1) column ≡ drop i column = rw (add-one i) (sym (drop-cons column i (pos 0) h)) in
      record {
        passed = omega arith;
        below = ap (λ (z : ℤ). least_from z (drop (i + 1) column)) el ∙ ap (least_from low) rest ∙ b.below;
        above = ap (λ (z : ℤ). greatest_from z (drop (i + 1) column)) eg ∙ ap (greatest_from high) rest ∙ b.above;
        keys = rw (add-one i, take-suc column i (pos 0) h) (all_snoc v b.keys k);
      }

  module _ (h : length column ≤ i) where
    pub bounded-least : low ≡ least column
    unfolding least_from
    bounded-least = ap (least_from low) (sym (drop_of_length-le column h)) ∙ b.below

    bounded-greatest : high ≡ greatest column
    unfolding greatest_from
    bounded-greatest = ap (greatest_from high) (sym (drop_of_length-le column h)) ∙ b.above

    pub bounded-width : width (gap low high) ≡ width (largest (map (gap (least column)) column))
    bounded-width =
        let all : All Key column = rw (take_all i column h) at b.keys in
        ap width (ap₂ gap bounded-least bounded-greatest ∙ sym (largest-gaps column all))
