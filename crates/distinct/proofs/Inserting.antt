-- A key taken in at its code: one that is there changes nothing; else what stands from its code on goes up by one place. So the front of the buffer becomes format's `insert`,
-- and the rest stays.
use mathlib.Core.Path.{◌≡◌, refl, sym, ap, ◌∙◌}
use mathlib.Core.Bool.{Bool, true, false, ◌||◌}
use mathlib.Core.List.{List, [], ◌∷◌, ◌++◌, append_assoc}
use Prim.Native.Nat.{ℕ, suc, ◌+◌, ◌≤◌, ◌<◌}
use native.Mathlib.Numerals.{add-one}
use native.Mathlib.Omega.{arith}
use lib.IntN.{ℤ}
use lib.ListN.{length, set, take, drop, take-append-drop}
use lib.Seq.{slice, length-take-le, take-take}
use Rattle.format.specs.Keys.{eq_z}
use Rattle.format.specs.Answers.{stored}
use Rattle.format.specs.Distinct.{insert, Rising}
use Rattle.format.specs.Dictionary.{code_of}
use Rattle.format.proofs.Plan.Checks.{take-stored}
use Rattle.distinct.specs.Collect.{has}
use Rattle.distinct.proofs.Codes.{code-le}
use Rattle.distinct.proofs.Members.{Ordered, less, same, greater, ordered, eq_z-self, insert-had, insert-more, not-above}
use Rattle.distinct.proofs.Shifting.{opened}

-- a key that is not there goes in at its code
insert-new : (key : ℤ) (xs : List ℤ) → has xs key ≡ false → insert key xs ≡ take (code_of xs key) xs ++ (key ∷ drop (code_of xs key) xs)
unfolding code_of insert has
insert-new key [] h = refl
insert-new key (x ∷ xs) h = go (ordered key x) (eq_z x key) refl h (insert-new key xs)
  where
    go : Ordered key x → (t : Bool) → eq_z x key ≡ t → (t || has xs key) ≡ false → (has xs key ≡ false → insert key xs ≡ take (code_of xs key) xs ++ (key ∷ drop (code_of xs key) xs))
        → insert key (x ∷ xs) ≡ take (code_of (x ∷ xs) key) (x ∷ xs) ++ (key ∷ drop (code_of (x ∷ xs) key) (x ∷ xs))
    go o true e h i = let z : ◌≡◌ {A = ℕ} 0 1 = cc in absurd (omega arith)
    go (less a) false e h i = rw (not-above key x a, a)
    go (same f) false e h i = let g : eq_z x x ≡ false = ap (eq_z x) (sym f) ∙ e in let z : ◌≡◌ {A = ℕ} 0 1 = cc (eq_z-self x) in absurd (omega arith)
    go (greater b) false e h i = rw b (ap (λ (l : List ℤ). x ∷ l) (i h))

-- ---- a buffer's front

-- with its own front a list is as it was
pub same_front : (s : List ℤ) (held : ℕ) → held ≤ length s → s ≡ stored (take held s) s
unfolding stored
same_front s held h = sym (ap (λ (n : ℕ). take held s ++ drop n s) (length-take-le held s h) ∙ take-append-drop held s)

-- the values that were put there
pub front_stored : (values s : List ℤ) {after : List ℤ} {n : ℕ} → after ≡ stored values s → n ≡ length values → take n after ≡ values
front_stored values s {after} {n} e f = ap (λ (k : ℕ). take k after) f ∙ ap (take (length values)) e ∙ take-stored values s

-- one value, put there
pub first_stored : {v key : ℤ} (s : List ℤ) → 0 < length s → v ≡ key → set s 0 v ≡ stored (key ∷ []) s
unfolding stored
first_stored [] h e = absurd (omega arith)
first_stored (x ∷ xs) h e = ap (λ (y : ℤ). y ∷ xs) e

module _ (s : List ℤ) (held : ℕ) (key : ℤ) (room : held ≤ length s) {xs : List ℤ} {asked : ℤ} (v : xs ≡ take held s) (k : asked ≡ key) where
  abbrev front : List ℤ
  front = take held s

  many : length front ≡ held
  many = length-take-le held s room

  -- the key is there
  pub taken-known : Rising front → has xs asked ≡ true → (held ≡ length (insert key front)) × (s ≡ stored (insert key front) s)
  taken-known r h =
      let e : insert key front ≡ front = insert-had key front r (rw (v, k) at h) in
      (sym (ap length e ∙ many), same_front s held room ∙ ap (λ (l : List ℤ). stored l s) (sym e))

  -- it is new: with it there is one more
  module _ (h : has xs asked ≡ false) where
    absent : has front key ≡ false
    absent = rw (v, k) at h

    pub taken-more : held + 1 ≡ length (insert key front)
    taken-more = omega (arith, insert-more key front absent, many)

    -- and it stands at its code
    module _ {at : ℕ} (c : at ≡ code_of xs asked) where
      code : at ≡ code_of front key
      code = rw (v, k) at c

      pub code-most : at ≤ held
      code-most = omega (arith, code, code-le key front, many)

      pub taken-new : {after : List ℤ} → after ≡ opened s at held asked → after ≡ stored (insert key front) s
      unfolding stored
      taken-new {after} f =
          f
          ∙ ap (opened s at held) k
          ∙ sym (append_assoc (take at s) (key ∷ slice at held s) (drop (suc held) s))
          ∙ ap (λ (l : List ℤ). (l ++ (key ∷ drop at front)) ++ drop (suc held) s) (sym (take-take at held s code-most))
          ∙ ap (λ (n : ℕ). (take n front ++ (key ∷ drop n front)) ++ drop (suc held) s) code
          ∙ ap (λ (l : List ℤ). l ++ drop (suc held) s) (sym (insert-new key front absent))
          ∙ ap (λ (n : ℕ). insert key front ++ drop n s) (sym (add-one held) ∙ taken-more)
