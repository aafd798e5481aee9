-- What the library's methods say, in the definitions of keys: a key that is read back from its bits, the bits of a key, bits read as signed, the greater of two
-- keys, sums and differences that wrap.
use Rattle.std.proofs.Common.{◌≡◌, ℕ, suc, ◌+◌, ◌-◌, ◌%◌, ◌^◌, ◌<◌, Bool, true, false, cond, eqb, ℤ, pos, negsuc, sym, refl, ap, ap₂, ◌∙◌, mod-eq_of_lt, arith, to_z-of_z, w64, to_z, of_z, ltb, eq-eqb, ne_eqb, eqb-true}
use Rattle.std.specs.Int.RustNames.{int_lt}
use Rattle.std.specs.Int.{int_max, int_wrapping_add, int_wrapping_sub}
use Rattle.std.proofs.lemmas.Int.{ints}
use lib.IntN.{◌-ℤ◌, -ℤ-+ℤ_cancel}
use borrow.Author.Tests.{eqb-false}
use mir.Val.{sel}
use Rattle.format.specs.Keys.{Key, eq_z, residue, as_signed, greater, gap, delta, wrapping_add}
use Rattle.format.proofs.Numbers.Keys.{residue-lt, residue-add, residue-as_signed, gap-lt, delta-key, wrapping_add-residue}

-- ---- bits

-- a key that is read from a column or comes from a call, back from the bits that the machine holds
pub held : (v : ℤ) → Key v → to_z w64 (of_z w64 v) ≡ v
held v h = to_z-of_z {w = w64} (record { sfits = h })

-- keys have the same bits where they are the same
pub same_bits : (a b : ℤ) → Key a → Key b → eqb (of_z w64 a) (of_z w64 b) ≡ eq_z a b
same_bits (pos a) (pos b) f g = refl
same_bits (pos a) (negsuc b) f g = ne_eqb a (2 ^ 64 - suc b) (λ e. omega arith)
same_bits (negsuc a) (pos b) f g = ne_eqb (2 ^ 64 - suc a) b (λ e. omega arith)
same_bits (negsuc a) (negsuc b) f g = go (eqb a b) refl
  where
    go : (t : Bool) → eqb a b ≡ t → eqb (2 ^ 64 - suc a) (2 ^ 64 - suc b) ≡ t
    go true e = eq-eqb (2 ^ 64 - suc a) (2 ^ 64 - suc b) (omega (arith, eqb-true a b e))
    go false e = ne_eqb (2 ^ 64 - suc a) (2 ^ 64 - suc b) (λ h. eqb-false a b e (omega arith))

-- the bits of a key
pub key_bits : (v : ℤ) → Key v → of_z w64 v ≡ residue v
key_bits (pos n) h = omega arith
key_bits (negsuc n) h = omega arith

-- bits read as signed
pub signed_cast : (n : ℕ) → to_z w64 n ≡ as_signed n
unfolding as_signed
signed_cast n = go (ltb n (2 ^ 63))
  where
    go : (t : Bool) → sel t (pos n) (negsuc (2 ^ 64 - suc n)) ≡ cond t (pos n) (negsuc (2 ^ 64 - suc n))
    go true = refl
    go false = refl

-- the greater of two keys: the tests differ where they are the same
pub max_greater : (a b : ℤ) → int_max a b ≡ greater a b
unfolding greater
max_greater a b = go (int_lt a b) (int_lt b a) refl refl
  where
    go : (s t : Bool) → int_lt a b ≡ s → int_lt b a ≡ t → cond t a b ≡ cond s b a
    go true true e f = absurd (omega (arith, ints))
    go true false e f = refl
    go false true e f = refl
    go false false e f = omega (arith, ints)

-- ---- sums and differences

-- the bits of a delta are the gap
pub delta-bits : (a b : ℤ) → residue (delta a b) ≡ gap a b
unfolding delta
delta-bits a b = residue-as_signed (gap a b) (gap-lt a b)

-- a sum that wraps takes bits read as signed for the number that they are
pub add-bits : (a : ℤ) (n : ℕ) → n < 2 ^ 64 → wrapping_add a (as_signed n) ≡ wrapping_add a (pos n)
add-bits a n h = wrapping_add-residue a (as_signed n) (pos n) (residue-as_signed n h ∙ sym (mod-eq_of_lt h))

-- the number to which a adds up to b, modulo 2^64
gap_is : (a b : ℤ) (n : ℕ) → n < 2 ^ 64 → (n + residue a) % 2 ^ 64 ≡ residue b → n ≡ gap a b
unfolding gap
gap_is a b n h e =
    let s : residue b ≡ (gap a b + residue a) % 2 ^ 64 = ap residue (sym (-ℤ-+ℤ_cancel b a)) ∙ residue-add (b -ℤ a) a in
    omega (arith, gap-lt a b, residue-lt a)

module _ (a b : ℤ) (f : Key a) (g : Key b) where
  -- the library's `wrapping_add`
  pub add_wraps : int_wrapping_add w64 a b ≡ wrapping_add a b
  unfolding wrapping_add
  add_wraps =
      signed_cast _ ∙ ap as_signed (ap₂ (λ (m n : ℕ). (m + n) % 2 ^ 64) (key_bits a f) (key_bits b g) ∙ sym (residue-add a b))

  -- its `wrapping_sub`
  pub sub_wraps : int_wrapping_sub w64 b a ≡ delta a b
  unfolding delta
  sub_wraps =
      signed_cast _
      ∙ ap as_signed (ap₂ (λ (m n : ℕ). (n + (2 ^ 64 - m)) % 2 ^ 64) (key_bits a f) (key_bits b g) ∙ gap_is a b _ (omega arith) (omega (arith, residue-lt a, residue-lt b)))

  -- and the bits of that
  pub gap_bits : of_z w64 (int_wrapping_sub w64 b a) ≡ gap a b
  gap_bits = rw sub_wraps (key_bits (delta a b) (delta-key a b) ∙ delta-bits a b)
