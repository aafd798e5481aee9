-- Storing a list from a place on, part by part. `sets l i vs` is l with vs stored from i on, one after the other. A loop that stores keeps this: when what is left is
-- stored from where it stands, the whole is stored from where it began (`Storing`).
use mathlib.Core.Path.{◌≡◌, refl, sym, ap, ◌∙◌}
use Prim.Native.Nat.{ℕ, suc, ◌+◌, ◌≤◌}
use native.Mathlib.Nat.{add-zero, add-suc, suc-add, zero-add}
use native.Mathlib.Numerals.{add-one}
use native.Mathlib.Omega.{arith}
use mathlib.Core.List.{List, [], ◌∷◌, ◌++◌}
use lib.ListN.{length, set, drop, length-append, length-set}
use lib.Seq.{sets, length-sets, sets-eq}
use Rattle.format.specs.Answers.{stored}

module _ {A : Type 0} where
  -- one part after the other
  pub sets-append : (a b l : List A) (i : ℕ) → sets l i (a ++ b) ≡ sets (sets l i a) (i + length a) b
  sets-append [] b l i = ap (λ (k : ℕ). sets l k b) (sym (add-zero i))
  sets-append (x ∷ a) b l i =
      sets-append a b (set l i x) (suc i) ∙ ap (λ (k : ℕ). sets (sets (set l i x) (suc i) a) k b) (suc-add i (length a) ∙ sym (add-suc i (length a)))

  -- from the start on: the front, and the rest is untouched
  pub sets-stored : (whole l : List A) → length whole ≤ length l → sets l 0 whole ≡ stored whole l
  unfolding stored
  sets-stored whole l h = sets-eq whole l 0 (rw (zero-add (length whole)) h) ∙ ap (λ (k : ℕ). whole ++ drop k l) (zero-add (length whole))

  -- A loop that stores. `whole` is to be stored in l from `from` on; `out` is what is there by now, and `rest` is still to come, from `at` on.
  pub record Storing (whole l : List A) (from : ℕ) (rest out : List A) (at : ℕ) : Type 0 where
    pub same : sets out at rest ≡ sets l from whole
    pub ends : at + length rest ≡ from + length whole
    pub long : length out ≡ length l

  module _ {whole l : List A} {from : ℕ} where
    pub storing-none : Storing whole l from whole l from
    storing-none = record { same = refl; ends = refl; long = refl }

    module _ {rest out : List A} {at : ℕ} (s : Storing whole l from rest out at) where
      -- a part more
      pub storing-part : (a b : List A) → rest ≡ a ++ b → Storing whole l from b (sets out at a) (at + length a)
      storing-part a b e =
          record {
            same = sym (sets-append a b out at) ∙ ap (sets out at) (sym e) ∙ s.same;
            ends = omega (arith, s.ends, ap length e, length-append a b);
            long = length-sets out at a ∙ s.long;
          }

      -- an element more
      pub storing-one : (v : A) (b : List A) → rest ≡ v ∷ b → Storing whole l from b (set out at v) (at + 1)
      storing-one v b e =
          record {
            same = ap (λ (k : ℕ). sets (set out at v) k b) (add-one at) ∙ ap (sets out at) (sym e) ∙ s.same;
            ends = omega (arith, s.ends, ap length e);
            long = length-set out at v ∙ s.long;
          }

      -- what is left has room where the whole had
      pub storing-room : from + length whole ≤ length l → at + length rest ≤ length out
      storing-room h = omega (arith, s.ends, s.long)

      -- nothing is left
      pub storing-done : rest ≡ [] → out ≡ sets l from whole
      storing-done e = ap (sets out at) (sym e) ∙ s.same

      pub storing-end : rest ≡ [] → at ≡ from + length whole
      storing-end e = omega (arith, s.ends, ap length e)
