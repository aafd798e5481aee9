-- A key's slot is one of the table's. A slot that still has the key that every slot had at first, and is not that key's own, was never used: whatever key is put in its slot, this
-- holds of the slots that are vacant then.
use mathlib.Core.Path.{◌≡◌, refl, sym, ap, ◌∙◌}
use mathlib.Core.Bool.{Bool, true, false, ◌&&◌}
use mathlib.Core.List.{List}
use Prim.Native.Nat.{ℕ, ◌-◌, ◌<◌}
use native.Mathlib.Omega.{arith}
use lib.IntN.{ℤ, pos}
use lib.Bits.{and_le_r}
use lib.Dec.{eqb}
use lib.ListN.{length, get_or, set, length-set}
use lib.Seq.{get_or-set_same, get_or-set_other}
use borrow.Author.Tests.{eq-eqb, ne_eqb, eqb-true, eqb-false}
use Rattle.format.specs.Keys.{eq_z}
use Rattle.format.proofs.Numbers.Order.{eq_z-true}
use Rattle.distinct.specs.Collect.{vacant}
use Rattle.distinct.specs.Search.{mixed, slot_of}
use Rattle.distinct.proofs.Members.{eq_z-self}

pub slot_lt : (key : ℤ) {slots : ℕ} → 0 < slots → slot_of key slots < slots
unfolding slot_of
slot_lt key {slots} h = omega (arith, and_le_r (mixed key) (slots - 1))

-- ---- vacant slots

and-false : (a : Bool) → (a && false) ≡ false
and-false true = refl
and-false false = refl

and-true : (a : Bool) → (a && true) ≡ a
and-true true = refl
and-true false = refl

module _ (seen : List ℤ) (first key : ℤ) where
  abbrev here : ℕ
  here = slot_of key (length seen)

  abbrev home : ℕ
  home = slot_of first (length seen)

  pub vacant-home : here ≡ home → vacant seen first key ≡ false
  unfolding vacant
  vacant-home e = rw (eq-eqb here home e) (and-false (eq_z (get_or seen here (pos 0)) first))

  pub vacant-test : (here ≡ home → ⊥) → vacant seen first key ≡ eq_z (get_or seen here (pos 0)) first
  unfolding vacant
  vacant-test other = rw (ne_eqb here home other) (and-true (eq_z (get_or seen here (pos 0)) first))

  vacant-true : vacant seen first key ≡ true → (get_or seen here (pos 0) ≡ first) × (here ≡ home → ⊥)
  vacant-true e =
      let other : here ≡ home → ⊥ = λ (f : here ≡ home). let z : ◌≡◌ {A = ℕ} 0 1 = cc (vacant-home f) in omega arith in
      (eq_z-true (get_or seen here (pos 0)) first (sym (vacant-test other) ∙ e), other)

  -- the first key's slot is not
  pub vacant-other : vacant seen first key ≡ true → eq_z first key ≡ false
  vacant-other e = go (eq_z first key) refl
    where
      go : (t : Bool) → eq_z first key ≡ t → t ≡ false
      go true f = absurd ((vacant-true e).1 (ap (λ (k : ℤ). slot_of k (length seen)) (sym (eq_z-true first key f))))
      go false f = refl

  -- a key in its slot
  module _ (v : ℤ) (there : slot_of v (length seen) < length seen) {table : List ℤ} (t : table ≡ set seen (slot_of v (length seen)) v) where
    abbrev at : ℕ
    at = slot_of v (length seen)

    long : length table ≡ length seen
    long = ap length t ∙ length-set seen at v

    told : ((get_or table (slot_of key (length table)) (pos 0) ≡ first) × (slot_of key (length table) ≡ slot_of first (length table) → ⊥))
        → (get_or (set seen at v) here (pos 0) ≡ first) × (here ≡ home → ⊥)
    told f =
        let is : get_or (set seen at v) here (pos 0) ≡ first = ap (λ (l : List ℤ). get_or l here (pos 0)) (sym t) ∙ ap (λ (n : ℕ). get_or table (slot_of key n) (pos 0)) (sym long) ∙ f.0 in
        (is, λ (e : here ≡ home). f.1 (ap (slot_of key) long ∙ e ∙ ap (slot_of first) (sym long)))

    still : (get_or (set seen at v) here (pos 0) ≡ first) × (here ≡ home → ⊥) → (eq_z v key ≡ false) × (vacant seen first key ≡ true)
    still f = go (eqb here at) refl
      where
        go : (b : Bool) → eqb here at ≡ b → (eq_z v key ≡ false) × (vacant seen first key ≡ true)
        go true e =
            let same : here ≡ at = eqb-true here at e in
            let is : v ≡ first = sym (get_or-set_same seen at v (pos 0) there) ∙ ap (λ (n : ℕ). get_or (set seen at v) n (pos 0)) (sym same) ∙ f.0 in
            absurd (f.1 (same ∙ ap (λ (k : ℤ). slot_of k (length seen)) is))
        go false e =
            let other = eqb-false here at e in
            let is : get_or seen here (pos 0) ≡ first = sym (get_or-set_other seen at here v (pos 0) other) ∙ f.0 in
            (apart (eq_z v key) refl, vacant-test f.1 ∙ ap (λ (k : ℤ). eq_z k first) is ∙ eq_z-self first)
          where
            apart : (b : Bool) → eq_z v key ≡ b → b ≡ false
            apart true g = absurd (eqb-false here at e (ap (λ (k : ℤ). slot_of k (length seen)) (sym (eq_z-true v key g))))
            apart false g = refl

-- a slot that is vacant once v is in its own was so before, and is not v's
pub vacant-before : (seen : List ℤ) (first key v : ℤ) → 0 < length seen → {table : List ℤ} → table ≡ set seen (slot_of v (length seen)) v → vacant table first key ≡ true
    → (eq_z v key ≡ false) × (vacant seen first key ≡ true)
vacant-before seen first key v some {table} t e =
    let there = slot_lt v some in
    still seen first key v there t (told seen first key v there t (vacant-true table first key e))
