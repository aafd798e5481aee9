-- Storing what a function makes of values one after the other, and of what stood in their places: when those that are left are stored from where it stands, all are
-- stored from where it began.
use mathlib.Core.Path.{◌≡◌, sym, ap, ◌∙◌}
use mathlib.Core.List.{List, ◌∷◌}
use Prim.Native.Nat.{ℕ, ◌+◌, ◌<◌}
use native.Mathlib.Numerals.{add-one}
use native.Mathlib.Omega.{arith}
use lib.IntN.{ℤ, pos}
use lib.ListN.{length, get_or, set, drop}
use lib.Seq.{sets, drop-cons, drop-set-lt}

module _ {S : Type 0} (values : S → List ℕ → List ℤ → List ℤ) (s t : S) (codes : List ℕ) (column : List ℤ) (at : ℕ) where
  -- a value more
  pub value-stored : (code : ℕ) (v : ℤ) → at < length column
      → (values s (code ∷ codes) (get_or column at (pos 0) ∷ drop (at + 1) column) ≡ v ∷ values t codes (drop (at + 1) column))
      → sets (set column at v) (at + 1) (values t codes (drop (at + 1) (set column at v))) ≡ sets column at (values s (code ∷ codes) (drop at column))
  value-stored code v h e =
      let untouched : drop (at + 1) (set column at v) ≡ drop (at + 1) column = drop-set-lt (at + 1) column at v (omega arith) in
      let olds : get_or column at (pos 0) ∷ drop (at + 1) column ≡ drop at column = rw (add-one at) (sym (drop-cons column at (pos 0) h)) in
      ap (λ (l : List ℤ). sets (set column at v) (at + 1) (values t codes l)) untouched
      ∙ ap (λ (k : ℕ). sets (set column at v) k (values t codes (drop (at + 1) column))) (add-one at)
      ∙ ap (sets column at) (sym e ∙ ap (values s (code ∷ codes)) olds)
