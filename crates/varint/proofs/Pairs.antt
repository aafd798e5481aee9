-- The groups of seven bits in eight bytes or fewer, as `groups` finds them: two masks and a shift join the groups of each pair of bytes, and the four pairs are joined as
-- digits in base 65536. A mask that repeats in each digit masks each digit, by induction on the digits.
use Rattle.std.proofs.Common.{◌≡◌, ℕ, zero, suc, ◌+◌, ◌*◌, ◌/◌, ◌%◌, ◌^◌, ◌<◌, ◌≤◌, List, [], ◌∷◌, map, length, get_or, sym, refl, ap, ◌∙◌, ap₂, zero-le, add-zero, mod-lt, zero-lt-suc, div-one, arith, lit<}
use native.Mathlib.Nat.{div-div-eq-div-mul}
use lib.Bits.{bit_and, and_zero_r, and_block, and_mask, and_high}
use lib.Pow.{split}
use Rattle.format.specs.Digits.{of_digits, digits}
use Rattle.format.proofs.Numbers.All.{all_none, all_more, all-by, all_map, Below}
use Rattle.format.proofs.Numbers.Places.{of_digits-at, of_digits-drop}
use Rattle.varint.specs.Reading.{groups8}

-- ---- a mask m in each of n digits

unfoldable repeated : ℕ → ℕ → ℕ
repeated m zero = 0
repeated m (suc n) = m + 65536 * repeated m n

masked : (f : ℕ → ℕ) (m : ℕ) → m < 65536 → ((d : ℕ) → bit_and d m ≡ f d) → (n x : ℕ)
    → bit_and x (repeated m n) ≡ of_digits 65536 (map f (digits 65536 n x))
unfolding repeated of_digits digits
masked f m h e zero x = and_zero_r x
masked f m h e (suc n) x =
    let q : ℕ = x / 65536 in
    let r : ℕ = x % 65536 in
    let k : x % 65536 < 2 ^ 16 = mod-lt x (zero-lt-suc 65535) in
    let mask : m + 65536 * repeated m n ≡ repeated m n * 2 ^ 16 + m = omega arith in
    ap₂ bit_and (sym (split x 16)) mask
    ∙ and_block 16 q (repeated m n) r m k h
    ∙ ap₂ (λ (u v : ℕ). u * 65536 + v) (masked f m h e n q) (e r)
    ∙ omega arith

-- ---- the pairs, and four of them

pair : ℕ → ℕ
pair d = d % 128 + d / 256 % 128 * 128

joined : (a b c d e f g h : ℕ)
    → of_digits 65536 (a ∷ c ∷ e ∷ g ∷ []) + of_digits 65536 ((b * 256) ∷ (d * 256) ∷ (f * 256) ∷ (h * 256) ∷ []) / 2
    ≡ of_digits 65536 ((a + b * 128) ∷ (c + d * 128) ∷ (e + f * 128) ∷ (g + h * 128) ∷ [])
unfolding of_digits
joined a b c d e f g h = omega arith

pairs-are : (x : ℕ) → bit_and x 35747867511423103 + bit_and x 9151454082924314368 / 2 ≡ of_digits 65536 (map pair (digits 65536 4 x))
unfolding repeated digits pair
pairs-are x =
    ap₂ (λ (u v : ℕ). u + v / 2) (masked (λ d. d % 128) 127 (lit< tt) (λ d. and_mask d 7) 4 x)
    (masked (λ d. d / 256 % 128 * 256) 32512 (lit< tt) (λ d. and_high d 7 8) 4 x)
    ∙ joined _ _ _ _ _ _ _ _

-- four digits, taken apart and joined at 14 bits each
abbrev pub quads : ℕ → ℕ
quads a = a % 65536 + a / 65536 % 65536 * 16384 + a / 4294967296 % 65536 * 268435456 + a / 281474976710656 * 4398046511104

quads-are : (p q r t : ℕ) → Below 65536 (p ∷ q ∷ r ∷ t ∷ [])
    → quads (of_digits 65536 (p ∷ q ∷ r ∷ t ∷ [])) ≡ p + q * 16384 + r * 268435456 + t * 4398046511104
unfolding of_digits
quads-are p q r t h =
    let a : ℕ = of_digits 65536 (p ∷ q ∷ r ∷ t ∷ []) in
    let p0 : a % 65536 ≡ p = ap (λ (n : ℕ). n % 65536) (sym (div-one a)) ∙ of_digits-at 0 h in
    let p1 : a / 65536 % 65536 ≡ q = of_digits-at 1 h in
    let p2 : a / 4294967296 % 65536 ≡ r = of_digits-at 2 h in
    let p3 : a / 281474976710656 ≡ t = sym (of_digits-drop 3 h) ∙ add-zero t in
    rw (p0, p1, p2, p3)

pair_lt : (d : ℕ) → pair d < 65536
unfolding pair
pair_lt d = omega arith

spread : (a b c d e f g h : ℕ)
    → (a + b * 128) + (c + d * 128) * 16384 + (e + f * 128) * 268435456 + (g + h * 128) * 4398046511104
    ≡ of_digits 128 (a ∷ b ∷ c ∷ d ∷ e ∷ f ∷ g ∷ h ∷ [])
unfolding of_digits
spread a b c d e f g h = omega arith

byte-group : (u : ℕ) → u % 256 % 128 ≡ u % 128
byte-group u = omega arith

low-group : (u : ℕ) → u % 65536 % 128 ≡ u % 128
low-group u = omega arith

high-group : (u : ℕ) → u % 65536 / 256 % 128 ≡ u / 256 % 128
high-group u = omega arith

pub groups_are : (x : ℕ) → quads (bit_and x 35747867511423103 + bit_and x 9151454082924314368 / 2) ≡ groups8 x
unfolding digits pair
groups_are x =
    ap quads (pairs-are x)
    ∙ quads-are _ _ _ _ (all_map pair (all-by (digits 65536 4 x) 0 λ i _. pair_lt (get_or (digits 65536 4 x) i 0)))
    ∙ simp (byte-group, low-group, high-group, div-div-eq-div-mul) (spread _ _ _ _ _ _ _ _)

-- ---- the groups of a list of bytes, as many or fewer

pub groups_of : (j : ℕ) {bs : List ℕ} → Below 256 bs → length bs ≤ j
    → of_digits 128 (map (λ b. b % 128) (digits 256 j (of_digits 256 bs))) ≡ of_digits 128 (map (λ b. b % 128) bs)
unfolding of_digits digits
groups_of zero all_none l = refl
groups_of (suc j) all_none l = rw (groups_of j all_none zero-le)
groups_of zero (all_more h r) l = absurd (omega arith)
groups_of (suc j) (all_more {x = b} {xs = bs} h r) l =
    let X : ℕ = of_digits 256 bs in
    let low : (b + 256 * X) % 256 ≡ b = omega arith in
    let rest : (b + 256 * X) / 256 ≡ X = omega arith in
    rw (low, rest, groups_of j r (omega arith))
