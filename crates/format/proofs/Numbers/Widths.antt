-- A number's width is its length in binary digits, the least that holds it, and its varint has a group for every seven of them. Both come from the library's law of
-- leading zeros: the width holds the number, and 2 to the width is at most twice the number and 1.
use mathlib.Core.Path.{◌≡◌}
use Prim.Native.Nat.{ℕ, suc, ◌+◌, ◌-◌, ◌*◌, ◌^◌, ◌≤◌, ◌<◌}
use native.Mathlib.Nat.{pow-suc, lt_of_le_of_lt, lt_of_lt_of_le, lt_of_not-le}
use native.Mathlib.Decide.{dec_le}
use native.Mathlib.Omega.{arith}
use lib.Pow.{pow_mono}
use lib.Count.{count_leading_zeros, leading_length}
use Rattle.format.specs.Varint.{uvarint_len}
use Rattle.format.specs.Width.{width}
use Rattle.format.proofs.Numbers.Places.{pow-pow}

-- the width is the number's length in binary digits: it holds the number, and no shorter length does
width-length : (x : ℕ) → x < 2 ^ 64 → (x < 2 ^ width x) × (2 ^ width x ≤ 2 * x + 1)
unfolding width
width-length x h =
    let l = leading_length 64 x h in
    let e : 64 - count_leading_zeros 64 x ≡ l.0 = omega (arith, l.1) in
    rw e (l.2, l.3)

pub width-lt : (x : ℕ) → x < 2 ^ 64 → x < 2 ^ width x
width-lt x h = (width-length x h).0

pub width-tight : (x : ℕ) → x < 2 ^ 64 → 2 ^ width x ≤ 2 * x + 1
width-tight x h = (width-length x h).1

-- 64 at most
pub width-le : (x : ℕ) → width x ≤ 64
unfolding width
width-le x = omega arith

-- the least width that holds x
pub width-least : (x w : ℕ) → x < 2 ^ w → width x ≤ w
width-least x w h = go (dec_le (width x) w)
  where
    go : Dec (width x ≤ w) → width x ≤ w
    go (yes k) = k
    go (no k) =
        let l : suc w ≤ width x = omega arith in
        let m : w ≤ 64 = omega (arith, width-le x) in
        let p : 2 ^ w * 2 ≤ 2 ^ width x = rw (pow-suc 2 w) at (pow_mono l) in
        absurd (omega (arith, width-tight x (lt_of_lt_of_le h (pow_mono m))))

-- monotone, below 2^64
pub width-mono : (x y : ℕ) → x ≤ y → y < 2 ^ 64 → width x ≤ width y
width-mono x y h k = width-least x (width y) (lt_of_le_of_lt h (width-lt y k))

-- ---- a varint's length

-- groups of seven binary digits
pub pow-128 : (n : ℕ) → 128 ^ n ≡ 2 ^ (n * 7)
pow-128 n = pow-pow 2 7 n

-- one byte at least
pub uvarint_len-pos : (x : ℕ) → 1 ≤ uvarint_len x
unfolding uvarint_len
uvarint_len-pos x = omega arith

-- ten bytes at most
pub uvarint_len_le : (x : ℕ) → uvarint_len x ≤ 10
unfolding uvarint_len
uvarint_len_le x = omega (arith, width-le x)

-- monotone, below 2^64
pub uvarint_len-mono : (x y : ℕ) → x ≤ y → y < 2 ^ 64 → uvarint_len x ≤ uvarint_len y
unfolding uvarint_len
uvarint_len-mono x y h k = omega (arith, width-mono x y h k)

-- so many groups hold the number
pub uvarint_len-lt : (x : ℕ) → x < 2 ^ 64 → x < 128 ^ uvarint_len x
unfolding uvarint_len
uvarint_len-lt x h =
    let n : ℕ = uvarint_len x in
    let e : width x ≤ n * 7 = omega arith in
    rw (pow-128 n) (lt_of_lt_of_le (width-lt x h) (pow_mono e))

-- no fewer do: the least length of one or more that holds x
pub uvarint_len_least : (x n : ℕ) → 1 ≤ n → x < 128 ^ n → uvarint_len x ≤ n
unfolding uvarint_len
uvarint_len_least x n p h = let k : x < 2 ^ (n * 7) = rw (pow-128 n) at h in omega (arith, width-least x (n * 7) k)

-- a number of n + 2 groups is not held by n + 1
pub uvarint_len-tight : (x n : ℕ) → uvarint_len x ≡ suc (suc n) → 128 ^ suc n ≤ x
uvarint_len-tight x n e = go (dec_le (128 ^ suc n) x)
  where
    go : Dec (128 ^ suc n ≤ x) → 128 ^ suc n ≤ x
    go (yes k) = k
    go (no k) = let h : x < 128 ^ suc n = lt_of_not-le k in absurd (omega (arith, uvarint_len_least x (suc n) (omega arith) h))
