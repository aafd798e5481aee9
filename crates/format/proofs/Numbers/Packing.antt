-- Bit packing, for any width: how long packed values are, and that unpacking gives them back. Packed bytes are the digits in base 256 of the number whose digits
-- in base 2 ^ w are the values; both have room for the same bits, so the one list of digits is read off the other.
use mathlib.Core.Path.{◌≡◌, sym, ap, ap₂, ◌∙◌}
use Prim.Native.Nat.{ℕ, ◌+◌, ◌-◌, ◌*◌, ◌%◌, ◌^◌, ◌<◌, ◌≤◌, min}
use native.Mathlib.Nat.{mul_assoc, mod-eq_of_lt, zero-lt-suc, zero-mul, mul-one, mul-le-mul_left, add-sub_of_le, lt_of_lt_of_le, le_trans, le_of_eq, add-mul}
use native.Mathlib.Decide.{dec_le}
use native.Mathlib.Omega.{arith}
use mathlib.Core.List.{List, ◌++◌, map}
use lib.ListN.{length, length-map}
use lib.Pow.{pow_pos, pow-add}
use Rattle.format.specs.Digits.{of_digits, digits}
use Rattle.format.specs.Packing.{packed_len, packed, unpacked}
use Rattle.format.proofs.Numbers.All.{Below}
use Rattle.format.proofs.Numbers.Places.{pow-pow}
use Rattle.format.proofs.Numbers.Digits.{length_digits, of_digits-append, digits-of_digits, of_digits-digits, digits-ignore, of_digits-lt, below-map}

-- ---- lengths

-- packed at a greater width: no shorter
pub packed_len-mono : (n w W : ℕ) → w ≤ W → packed_len n w ≤ packed_len n W
unfolding packed_len
packed_len-mono n w W h = omega (arith, mul-le-mul_left n h)

-- eight bytes a value at most
pub packed_len-most : (n w : ℕ) → w ≤ 64 → packed_len n w ≤ 8 * n
unfolding packed_len
packed_len-most n w h = omega (arith, mul-le-mul_left n h)

-- 128 values are whole bytes: packed apart from the rest, at the same width, they add up
pub packed_len-128 : (n w : ℕ) → packed_len (128 + n) w ≡ packed_len 128 w + packed_len n w
unfolding packed_len
packed_len-128 n w = let e : (128 + n) * w ≡ 128 * w + n * w = add-mul 128 n w in omega arith

-- no values: no bytes
pub packed_len-zero : (w : ℕ) → packed_len 0 w ≡ 0
unfolding packed_len
packed_len-zero w = rw zero-mul

-- the first 128 values (or all, if fewer) and the rest
pub packed_len-split : (n w : ℕ) → packed_len (min 128 n) w + packed_len (n - 128) w ≡ packed_len n w
packed_len-split n w = go (dec_le 128 n)
  where
    go : Dec (128 ≤ n) → packed_len (min 128 n) w + packed_len (n - 128) w ≡ packed_len n w
    go (yes h) =
        let a : min 128 n ≡ 128 = omega arith in
        let b : 128 + (n - 128) ≡ n = omega arith in
        ap (λ (x : ℕ). packed_len x w + packed_len (n - 128) w) a ∙ sym (packed_len-128 (n - 128) w) ∙ ap (λ (x : ℕ). packed_len x w) b
    go (no h) =
        let a : min 128 n ≡ n = omega arith in
        let b : n - 128 ≡ 0 = omega arith in
        ap₂ (λ (x y : ℕ). packed_len x w + packed_len y w) a b ∙ omega (arith, packed_len-zero w)

-- packed bytes are so many as the packed length says
pub length-packed : (w : ℕ) (ns : List ℕ) → length (packed w ns) ≡ packed_len (length ns) w
unfolding packed
length-packed w ns = length_digits 256 (packed_len (length ns) w) _

-- ---- read back

-- the packed bytes have room for all the bits: 256 ^ L is a multiple of (2 ^ w) ^ n
room : (n w : ℕ) → 256 ^ packed_len n w ≡ (2 ^ w) ^ n * 2 ^ (packed_len n w * 8 - n * w)
unfolding packed_len
room n w =
    pow-pow 2 8 (packed_len n w)
    ∙ ap (λ (y : ℕ). 2 ^ y) (sym (add-sub_of_le enough))
    ∙ pow-add 2 (n * w) (packed_len n w * 8 - n * w)
    ∙ ap (λ (y : ℕ). y * 2 ^ (packed_len n w * 8 - n * w)) (sym (pow-pow 2 w n))
  where
    enough : n * w ≤ packed_len n w * 8
    enough = omega arith

-- PACKING AND UNPACKING, for any width: what is unpacked from packed values, whatever comes after them, is the values without their bits above the width
pub unpacked-packed : (w : ℕ) (vs rest : List ℕ) → unpacked w (length vs) (packed w vs ++ rest) ≡ map (λ v. v % 2 ^ w) vs
unfolding unpacked packed
unpacked-packed w vs rest =
    let ds : List ℕ = map (λ v. v % 2 ^ w) vs in
    let n : ℕ = length vs in
    let l : ℕ = packed_len n w in
    let x : ℕ = of_digits (2 ^ w) ds in
    let k : ℕ = 2 ^ (l * 8 - n * w) in
    let same : length ds ≡ n = length-map vs (λ v. v % 2 ^ w) in
    let below : Below (2 ^ w) ds = below-map (2 ^ w) (pow_pos w) vs in
    let small : x < 256 ^ l =
    lt_of_lt_of_le (of_digits-lt below)
    (le_trans (le_of_eq (ap (λ (y : ℕ). (2 ^ w) ^ y) same ∙ sym (mul-one _))) (le_trans (mul-le-mul_left ((2 ^ w) ^ n) (pow_pos (l * 8 - n * w))) (le_of_eq (sym (room n w))))) in
    let all : of_digits 256 (digits 256 l x ++ rest) ≡ x + (2 ^ w) ^ n * (k * of_digits 256 rest) =
    of_digits-append 256 (digits 256 l x) rest
    ∙ ap₂ (λ (a b : ℕ). a + 256 ^ b * of_digits 256 rest) (of_digits-digits 256 l x (zero-lt-suc 255) ∙ mod-eq_of_lt small) (length_digits 256 l x)
    ∙ ap (λ (y : ℕ). x + y * of_digits 256 rest) (room n w)
    ∙ ap (λ (y : ℕ). x + y) (mul_assoc ((2 ^ w) ^ n) k (of_digits 256 rest)) in
    ap (digits (2 ^ w) n) all
    ∙ digits-ignore (2 ^ w) n x (k * of_digits 256 rest) (pow_pos w)
    ∙ ap (λ (m : ℕ). digits (2 ^ w) m x) (sym same)
    ∙ digits-of_digits (pow_pos w) below
