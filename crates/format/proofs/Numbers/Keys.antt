-- Keys modulo 2^64: a key is its residue read as signed, so a sum that wraps gives a key back from its gap or its delta; its eight bytes and its ZigZag are read
-- back. The cases of the sign are left to omega, over the residues.
use mathlib.Core.Path.{◌≡◌, sym, ap, ◌∙◌}
use mathlib.Core.Bool.{Bool, true, false, cond}
use mathlib.Core.List.{List}
use Prim.Native.Nat.{ℕ, suc, ◌+◌, ◌-◌, ◌*◌, ◌/◌, ◌%◌, ◌^◌, ◌≤◌, ◌<◌}
use native.Mathlib.Nat.{zero-lt-suc, mod-eq_of_lt}
use native.Mathlib.Decide.{dec_lt}
use native.Mathlib.Omega.{arith}
use lib.IntN.{ℤ, pos, negsuc, ◌+ℤ◌, ◌-ℤ◌, sub_ℕ, +ℤ_comm, -ℤ-+ℤ_cancel}
use lib.Dec.{ltb, eqb}
use lib.Signed.{mag}
use lib.ListN.{length, take}
use lib.Seq.{take_at}
use borrow.Author.Tests.{lt-ltb, le-ltb}
use Rattle.format.specs.Digits.{of_digits}
use Rattle.format.proofs.Numbers.Occurs.{Occurs}
use Rattle.format.specs.Keys.{residue, as_signed, gap, delta, wrapping_add, key_bytes, key_at, zigzag, unzigzag, Key}
use Rattle.format.specs.Varint.{varint_len, varint_bytes}
use Rattle.format.proofs.Numbers.All.{Below}
use Rattle.format.proofs.Numbers.Digits.{length_digits, of_digits-digits, below-digits}
use Rattle.format.proofs.Numbers.Uvarints.{length-uvarint_bytes}
use Rattle.format.proofs.Numbers.Widths.{uvarint_len_le}

-- ---- residues

-- a residue is below 2^64
pub residue-lt : (z : ℤ) → residue z < 2 ^ 64
residue-lt (pos n) = omega arith
residue-lt (negsuc n) = omega arith

-- a key's residue, read as signed, is the key
pub as_signed-residue : (v : ℤ) → Key v → as_signed (residue v) ≡ v
unfolding as_signed
as_signed-residue (pos n) h =
    let e : n % 2 ^ 64 ≡ n = omega arith in rw (e, lt-ltb n (2 ^ 63) h)
as_signed-residue (negsuc n) h =
    let e : n % 2 ^ 64 ≡ n = omega arith in
    let k : 2 ^ 63 ≤ 2 ^ 64 - suc n = omega arith in
    let d : 2 ^ 64 - suc (2 ^ 64 - suc n) ≡ n = omega arith in
    rw (e, le-ltb (2 ^ 64 - suc n) (2 ^ 63) k, d)

-- the residue of a number read as signed is the number
pub residue-as_signed : (n : ℕ) → n < 2 ^ 64 → residue (as_signed n) ≡ n
unfolding as_signed
residue-as_signed n h = go (dec_lt n (2 ^ 63))
  where
    go : Dec (n < 2 ^ 63) → residue (cond (ltb n (2 ^ 63)) (pos n) (negsuc (2 ^ 64 - suc n))) ≡ n
    go (yes k) = rw (lt-ltb n (2 ^ 63) k) (omega arith)
    go (no k) = let l : 2 ^ 63 ≤ n = omega arith in rw (le-ltb n (2 ^ 63) l) (omega arith)

-- a number below 2^64 read as signed is a key
pub as_signed-key : (n : ℕ) → n < 2 ^ 64 → Key (as_signed n)
unfolding as_signed
as_signed-key n h = go (dec_lt n (2 ^ 63))
  where
    go : Dec (n < 2 ^ 63) → mag (cond (ltb n (2 ^ 63)) (pos n) (negsuc (2 ^ 64 - suc n))) < 2 ^ 63
    go (yes k) = rw (lt-ltb n (2 ^ 63) k) k
    go (no k) = let l : 2 ^ 63 ≤ n = omega arith in rw (le-ltb n (2 ^ 63) l) (omega arith)

residue-sub : (m n : ℕ) → (residue (sub_ℕ m n) + n) % 2 ^ 64 ≡ m % 2 ^ 64
residue-sub m n = go (dec_lt m n)
  where
    go : Dec (m < n) → (residue (sub_ℕ m n) + n) % 2 ^ 64 ≡ m % 2 ^ 64
    go (yes h) = rw (lt-ltb m n h) (omega arith)
    go (no h) = let k : n ≤ m = omega arith in rw (le-ltb m n k) (omega arith)

-- the residue of a sum is the sum of the residues modulo 2^64
pub residue-add : (a b : ℤ) → residue (a +ℤ b) ≡ (residue a + residue b) % 2 ^ 64
residue-add (pos a) (pos b) = omega arith
residue-add (pos a) (negsuc b) = omega (arith, residue-sub a (suc b), residue-lt (sub_ℕ a (suc b)))
residue-add (negsuc a) (pos b) = omega (arith, residue-sub b (suc a), residue-lt (sub_ℕ b (suc a)))
residue-add (negsuc a) (negsuc b) = omega arith

-- ---- gaps, deltas and sums that wrap

-- a gap is below 2^64
pub gap-lt : (a b : ℤ) → gap a b < 2 ^ 64
unfolding gap
gap-lt a b = residue-lt (b -ℤ a)

-- a delta is a key
pub delta-key : (a b : ℤ) → Key (delta a b)
unfolding delta
delta-key a b = as_signed-key (gap a b) (gap-lt a b)

-- a sum that wraps is a key
pub wrapping_add-key : (a b : ℤ) → Key (wrapping_add a b)
unfolding wrapping_add
wrapping_add-key a b = as_signed-key (residue (a +ℤ b)) (residue-lt (a +ℤ b))

-- only the residue of what is added counts
pub wrapping_add-residue : (a b c : ℤ) → residue b ≡ residue c → wrapping_add a b ≡ wrapping_add a c
unfolding wrapping_add
wrapping_add-residue a b c e = ap as_signed (residue-add a b ∙ ap (λ (n : ℕ). (residue a + n) % 2 ^ 64) e ∙ sym (residue-add a c))

-- from a by the difference to b
wrapping_add-back : (a b : ℤ) → Key b → wrapping_add a (b -ℤ a) ≡ b
unfolding wrapping_add
wrapping_add-back a b h = ap (λ (z : ℤ). as_signed (residue z)) (+ℤ_comm a (b -ℤ a) ∙ -ℤ-+ℤ_cancel b a) ∙ as_signed-residue b h

-- from a by the gap to b (with a the least: a difference packed)
pub wrapping_add-gap : (a b : ℤ) → Key b → wrapping_add a (pos (gap a b)) ≡ b
unfolding gap
wrapping_add-gap a b h = wrapping_add-residue a (pos (gap a b)) (b -ℤ a) (mod-eq_of_lt (residue-lt (b -ℤ a))) ∙ wrapping_add-back a b h

-- from a by the delta to b
pub wrapping_add-delta : (a b : ℤ) → Key b → wrapping_add a (delta a b) ≡ b
unfolding gap delta
wrapping_add-delta a b h = wrapping_add-residue a (delta a b) (b -ℤ a) (residue-as_signed (gap a b) (residue-lt (b -ℤ a))) ∙ wrapping_add-back a b h

-- ---- eight bytes

-- a key has eight bytes
pub length-key_bytes : (v : ℤ) → length (key_bytes v) ≡ 8
unfolding key_bytes
length-key_bytes v = length_digits 256 8 (residue v)

-- they are bytes
pub below-key_bytes : (v : ℤ) → Below 256 (key_bytes v)
unfolding key_bytes
below-key_bytes v = below-digits 256 8 (residue v) (zero-lt-suc 255)

-- READ BACK: where a key's bytes were written, the key is read
pub key_at-back : {s : List ℕ} {at : ℕ} (v : ℤ) → Key v → Occurs s at (key_bytes v) → key_at s at ≡ v
unfolding key_at key_bytes
key_at-back v h o =
    ap (λ (l : List ℕ). as_signed (of_digits 256 (take 8 l))) o.here
    ∙ ap (λ (l : List ℕ). as_signed (of_digits 256 l)) (take_at (key_bytes v) o.rest 8 (length-key_bytes v))
    ∙ ap as_signed (of_digits-digits 256 8 (residue v) (zero-lt-suc 255) ∙ mod-eq_of_lt (residue-lt v))
    ∙ as_signed-residue v h

-- ---- ZigZag

pub unzigzag-zigzag : (v : ℤ) → unzigzag (zigzag v) ≡ v
unfolding unzigzag
unzigzag-zigzag (pos n) =
    let p : 2 * n % 2 ≡ 0 = omega arith in let q : 2 * n / 2 ≡ n = omega arith in rw (p, q)
unzigzag-zigzag (negsuc n) =
    let p : (2 * n + 1) % 2 ≡ 1 = omega arith in let q : (2 * n + 1) / 2 ≡ n = omega arith in rw (p, q)

-- a key's ZigZag is below 2^64
pub zigzag-lt : (v : ℤ) → Key v → zigzag v < 2 ^ 64
zigzag-lt (pos n) h = omega arith
zigzag-lt (negsuc n) h = omega arith

-- a ZigZag below 2^64 is a key's
pub unzigzag-key : (n : ℕ) → n < 2 ^ 64 → Key (unzigzag n)
unfolding unzigzag
unzigzag-key n h = go (eqb (n % 2) 0)
  where
    go : (b : Bool) → mag (cond b (pos (n / 2)) (negsuc (n / 2))) < 2 ^ 63
    go true = omega arith
    go false = omega arith

-- ---- signed varints

-- a signed varint has the length of its key
pub length-varint_bytes : (v : ℤ) → length (varint_bytes v) ≡ varint_len v
unfolding varint_bytes varint_len
length-varint_bytes v = length-uvarint_bytes (zigzag v)

-- ten bytes at most
pub varint_len-le : (v : ℤ) → varint_len v ≤ 10
unfolding varint_len
varint_len-le v = uvarint_len_le (zigzag v)
