-- A field of a number N: the w bits from a bit on, N / 2 ^ bit % 2 ^ w, out of the word at the bit's byte and, where they end past it, the ninth byte. The laws
-- speak of N and of two of its parts alone, whatever list of bytes these were loaded from: N may be the number of the bytes, or of the same bytes in reverse, so
-- the laws serve fields read most significant first too.
use mathlib.Core.Path.{◌≡◌, sym, ap, ap₂, ◌∙◌}
use Prim.Native.Nat.{ℕ, ◌+◌, ◌-◌, ◌*◌, ◌/◌, ◌%◌, ◌^◌, ◌≤◌}
use native.Mathlib.Nat.{add-zero, mul-mod_left, mod-lt, div-add-mod'}
use native.Mathlib.Omega.{arith}
use lib.Pow.{pow_pos, field, mod-mod-pow, mod-pow-add, shl-shr, shr-shr}
use lib.Bits.{bit_and, bit_or, and_mask, or_shifted_r}
use Rattle.format.proofs.Numbers.Places.{pow-256}

-- ---- masks and shifts

pub masked : (x w : ℕ) {m : ℕ} → m ≡ 2 ^ w - 1 → bit_and x m ≡ x % 2 ^ w
masked x w e = rw e (and_mask x w)

-- a shift left that loses the high bits: the j low bits of h are k places up
pub shl-cut : (h j k : ℕ) → h * 2 ^ k % 2 ^ (j + k) ≡ h % 2 ^ j * 2 ^ k
shl-cut h j k = rw (mod-pow-add (h * 2 ^ k) j k, shl-shr h k, mul-mod_left h (2 ^ k)) (add-zero (h % 2 ^ j * 2 ^ k))

-- ---- w bits from a bit on

module _ (N bit w : ℕ) where
  -- 8 * p + off is the bit
  at-bit : N / 256 ^ (bit / 8) / 2 ^ (bit % 8) ≡ N / 2 ^ bit
  at-bit = rw (pow-256 (bit / 8), shr-shr N (bit / 8 * 8) (bit % 8), div-add-mod' bit 8)

  -- the word, shifted: 64 - off bits from the bit on
  shifted : N / 256 ^ (bit / 8) % 2 ^ 64 / 2 ^ (bit % 8) ≡ N / 2 ^ bit % 2 ^ (64 - bit % 8)
  shifted =
      let e : 64 ≡ (64 - bit % 8) + bit % 8 = omega arith in
      ap (λ (x : ℕ). N / 256 ^ (bit / 8) % 2 ^ x / 2 ^ (bit % 8)) e
      ∙ field (N / 256 ^ (bit / 8)) (64 - bit % 8) (bit % 8)
      ∙ ap (λ (x : ℕ). x % 2 ^ (64 - bit % 8)) at-bit

  -- the ninth byte begins where the word ends
  far : N / 256 ^ (bit / 8 + 8) ≡ N / 2 ^ bit / 2 ^ (64 - bit % 8)
  far =
      let ends : (bit / 8 + 8) * 8 ≡ bit + (64 - bit % 8) = omega arith in
      rw (pow-256 (bit / 8 + 8), ends) (sym (shr-shr N bit (64 - bit % 8)))

  module _ {x m : ℕ} (ex : x ≡ N / 256 ^ (bit / 8) % 2 ^ 64) (em : m ≡ 2 ^ w - 1) where
    -- the field ends inside the word x
    pub low_bits : bit % 8 + w ≤ 64 → bit_and (x / 2 ^ (bit % 8)) m ≡ N / 2 ^ bit % 2 ^ w
    low_bits h =
        let e : 64 - bit % 8 ≡ (64 - bit % 8 - w) + w = omega arith in
        masked (x / 2 ^ (bit % 8)) w em
        ∙ ap (λ (y : ℕ). y % 2 ^ w) (ap (λ (y : ℕ). y / 2 ^ (bit % 8)) ex ∙ shifted ∙ ap (λ (y : ℕ). N / 2 ^ bit % 2 ^ y) e)
        ∙ mod-mod-pow (N / 2 ^ bit) (64 - bit % 8 - w) w

    -- it ends in the byte after it, h
    pub nine-bytes : {h : ℕ} → h ≡ N / 256 ^ (bit / 8 + 8) % 256 → w ≤ 64
        → bit_and (bit_or (x / 2 ^ (bit % 8)) (h * 2 ^ (64 - bit % 8) % 2 ^ 64)) m ≡ N / 2 ^ bit % 2 ^ w
    nine-bytes {h} eh hw =
        let o = bit % 8 in
        let k = 64 - bit % 8 in
        let M = N / 2 ^ bit in
        let e : 64 ≡ o + k = omega arith in
        let e8 : 8 ≡ (8 - o) + o = omega arith in
        let ew : 64 ≡ (64 - w) + w = omega arith in
        let ninth : h % 2 ^ o ≡ M / 2 ^ k % 2 ^ o
        = ap (λ (y : ℕ). y % 2 ^ o) (eh ∙ ap (λ (y : ℕ). N / 256 ^ (bit / 8 + 8) % 2 ^ y) e8)
        ∙ mod-mod-pow (N / 256 ^ (bit / 8 + 8)) (8 - o) o ∙ ap (λ (y : ℕ). y % 2 ^ o) far in
        let top : h * 2 ^ k % 2 ^ 64 ≡ M / 2 ^ k % 2 ^ o * 2 ^ k
        = ap (λ (y : ℕ). h * 2 ^ k % 2 ^ y) e ∙ shl-cut h o k ∙ ap (λ (y : ℕ). y * 2 ^ k) ninth in
        let whole : bit_or (x / 2 ^ o) (h * 2 ^ k % 2 ^ 64) ≡ M % 2 ^ 64
        = ap₂ (λ (y z : ℕ). bit_or y z) (ap (λ (y : ℕ). y / 2 ^ o) ex ∙ shifted) top
        ∙ or_shifted_r (M / 2 ^ k % 2 ^ o) k (M % 2 ^ k) (mod-lt M (pow_pos k))
        ∙ sym (mod-pow-add M o k) ∙ ap (λ (y : ℕ). M % 2 ^ y) (sym e) in
        masked (bit_or (x / 2 ^ o) (h * 2 ^ k % 2 ^ 64)) w em
        ∙ ap (λ (y : ℕ). y % 2 ^ w) (whole ∙ ap (λ (y : ℕ). M % 2 ^ y) ew)
        ∙ mod-mod-pow M (64 - w) w
