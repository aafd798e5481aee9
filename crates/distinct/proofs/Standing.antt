-- Whether a key stands at a place. Among rising values it stands at its code or nowhere, so a place where it stands needs no search.
use mathlib.Core.Path.{◌≡◌, refl, sym, ap, ◌∙◌}
use mathlib.Core.Bool.{Bool, true, false, ◌&&◌, ◌||◌}
use mathlib.Core.List.{List, [], ◌∷◌}
use Prim.Native.Nat.{ℕ, suc, ◌<◌}
use native.Mathlib.Decide.{dec_lt}
use native.Mathlib.Omega.{arith}
use lib.Dec.{ltb}
use lib.IntN.{ℤ, pos}
use lib.Signed.{lt_z}
use lib.ListN.{length, get_or}
use borrow.Author.Tests.{ltb-true, lt-ltb, le-ltb}
use Rattle.format.specs.Keys.{eq_z}
use Rattle.format.specs.Dictionary.{code_of}
use Rattle.format.proofs.Numbers.Order.{lt_z-self, eq_z-true}
use Rattle.format.specs.Distinct.{Rising}
use Rattle.distinct.specs.Collect.{has}
use Rattle.distinct.specs.Search.{stands_at}
use Rattle.distinct.proofs.Codes.{code-of-value}
use Rattle.distinct.proofs.Members.{Ordered, less, same, greater, ordered, never_both, not-above, eq_z-self, eq_z-less, eq_z-greater, least}

module _ (values : List ℤ) (at : ℕ) (key : ℤ) where
  -- where the answer is yes
  module _ {r : Bool} (e : r ≡ stands_at values at key) (there : r ≡ true) where
    pub stands-value : (at < length values) × (get_or values at (pos 0) ≡ key)
    unfolding stands_at
    stands-value = go (ltb at (length values)) refl (sym e ∙ there)
      where
        go : (t : Bool) → ltb at (length values) ≡ t → (t && eq_z (get_or values at (pos 0)) key) ≡ true → (at < length values) × (get_or values at (pos 0) ≡ key)
        go true l h = (ltb-true at (length values) l, eq_z-true (get_or values at (pos 0)) key h)
        go false l h = let z : ◌≡◌ {A = ℕ} 0 1 = cc in absurd (omega arith)

    -- it is the key's code
    pub stands-code : Rising values → at ≡ code_of values key
    stands-code rising = sym (code-of-value values at rising stands-value.0) ∙ ap (code_of values) stands-value.1

  -- where it is no, another value stands there
  pub stands-other : {r : Bool} → r ≡ stands_at values at key → r ≡ false → at < length values → eq_z (get_or values at (pos 0)) key ≡ false
  unfolding stands_at
  stands-other e absent h = sym (rw (lt-ltb at (length values) h) at e) ∙ absent

-- ---- at its code or nowhere

less-suc : (a b : ℕ) → ltb (suc a) (suc b) ≡ ltb a b
less-suc a b = go (dec_lt a b)
  where
    go : Dec (a < b) → ltb (suc a) (suc b) ≡ ltb a b
    go (yes h) = lt-ltb (suc a) (suc b) (omega arith) ∙ sym (lt-ltb a b h)
    go (no h) = le-ltb (suc a) (suc b) (omega arith) ∙ sym (le-ltb a b (omega arith))

module _ (v x : ℤ) (xs : List ℤ) where
  -- at the first value's place, and at a later one
  stands-first : stands_at (x ∷ xs) 0 v ≡ eq_z x v
  unfolding stands_at
  stands-first = rw (lt-ltb 0 (suc (length xs)) (omega arith))

  stands-later : (n : ℕ) → stands_at (x ∷ xs) (suc n) v ≡ stands_at xs n v
  unfolding stands_at
  stands-later n = ap (λ (t : Bool). t && eq_z (get_or xs n (pos 0)) v) (less-suc n (length xs))

  code-first : lt_z x v ≡ false → code_of (x ∷ xs) v ≡ 0
  unfolding code_of
  code-first e = rw e

  code-later : lt_z x v ≡ true → code_of (x ∷ xs) v ≡ suc (code_of xs v)
  unfolding code_of
  code-later e = rw e

pub stands_has : (v : ℤ) (values : List ℤ) → Rising values → stands_at values (code_of values v) v ≡ has values v
unfolding stands_at code_of has
stands_has v [] r = refl
stands_has v (x ∷ xs) r = go (ordered v x) (has xs v) refl (stands_has v xs r.1)
  where
    first : lt_z x v ≡ false → stands_at (x ∷ xs) (code_of (x ∷ xs) v) v ≡ eq_z x v
    first e = ap (λ (n : ℕ). stands_at (x ∷ xs) n v) (code-first v x xs e) ∙ stands-first v x xs

    go : Ordered v x → (t : Bool) → has xs v ≡ t → stands_at xs (code_of xs v) v ≡ has xs v → stands_at (x ∷ xs) (code_of (x ∷ xs) v) v ≡ (eq_z x v || has xs v)
    go (less h) true e i = absurd (never_both v x h (least x xs v r e))
    go (less h) false e i = first (not-above v x h) ∙ rw (e, eq_z-greater x v h)
    go (same s) t e i = first (ap (lt_z x) s ∙ lt_z-self x) ∙ rw (ap (eq_z x) s ∙ eq_z-self x)
    go (greater h) t e i = ap (λ (n : ℕ). stands_at (x ∷ xs) n v) (code-later v x xs h) ∙ stands-later v x xs (code_of xs v) ∙ i ∙ rw (eq_z-less x v h)
