-- Keys, "signed 64-bit" numbers (the mission's "column"): integers from -2^63 to 2^63 - 1, their arithmetic modulo 2^64, their eight bytes, and ZigZag
-- (01, "Numbers as bytes": "ZigZag of v is 2·v for v of 0 or more, else −2·v − 1. The smallest key gives 2^64 − 1").
use Rattle.std.specs.Prelude.{ℕ, suc, ◌+◌, ◌-◌, ◌*◌, ◌/◌, ◌%◌, ◌^◌, ◌<◌, Bool, false, cond, List, ℤ, pos, negsuc, ◌+ℤ◌, ◌-ℤ◌, ltb, eqb, length, get_or, take, drop}
use Rattle.std.specs.Int.Signed.{mag, lt_z}
use Rattle.format.specs.Digits.{digits, of_digits}

-- v is a key: from -2^63 to 2^63 - 1 (`mag z` is n for n and for -n - 1)
abbrev pub Key : ℤ → Type 0
Key v = mag v < 2 ^ 63

-- every value of a column is a key
abbrev pub Keys : List ℤ → Type 0
Keys column = (i : ℕ) → i < length column → Key (get_or column i (pos 0))

-- "modulo 2^64": the number from 0 to 2^64 - 1 that differs from z by a multiple of 2^64
abbrev pub residue : ℤ → ℕ
residue (pos n) = n % 2 ^ 64
residue (negsuc n) = 2 ^ 64 - suc (n % 2 ^ 64)

-- "read as signed": the key whose 64 bits in two's complement are those of n
unfoldable pub as_signed : ℕ → ℤ
as_signed n = cond (ltb n (2 ^ 63)) (pos n) (negsuc (2 ^ 64 - suc n))

-- b less a, modulo 2^64: a gap, a "difference" from the least value, a span
unfoldable pub gap : ℤ → ℤ → ℕ
gap a b = residue (b -ℤ a)

-- "A delta is taken modulo 2^64 and read as signed": from a to b
unfoldable pub delta : ℤ → ℤ → ℤ
delta a b = as_signed (gap a b)

-- a + b, by "every sum on reading wraps": the Rust's `wrapping_add`
unfoldable pub wrapping_add : ℤ → ℤ → ℤ
wrapping_add a b = as_signed (residue (a +ℤ b))

-- the same key or not (the order's tests are `lt_z` and `le_z` of lib.Signed)
abbrev pub eq_z : ℤ → ℤ → Bool
eq_z (pos a) (pos b) = eqb a b
eq_z (pos a) (negsuc b) = false
eq_z (negsuc a) (pos b) = false
eq_z (negsuc a) (negsuc b) = eqb a b

-- the lesser and the greater of two keys
unfoldable pub lesser : ℤ → ℤ → ℤ
lesser a b = cond (lt_z b a) b a

unfoldable pub greater : ℤ → ℤ → ℤ
greater a b = cond (lt_z a b) b a

-- "8 bytes a value, little-endian"
unfoldable pub key_bytes : ℤ → List ℕ
key_bytes v = digits 256 8 (residue v)

-- the key whose eight bytes stand at a place of s
unfoldable pub key_at : List ℕ → ℕ → ℤ
key_at s at = as_signed (of_digits 256 (take 8 (drop at s)))

-- "ZigZag of v is 2·v for v of 0 or more, else −2·v − 1": negsuc n is −n − 1
abbrev pub zigzag : ℤ → ℕ
zigzag (pos n) = 2 * n
zigzag (negsuc n) = 2 * n + 1

-- the key with that ZigZag
unfoldable pub unzigzag : ℕ → ℤ
unzigzag z = cond (eqb (z % 2) 0) (pos (z / 2)) (negsuc (z / 2))
