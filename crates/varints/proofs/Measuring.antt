-- How long a body is: at most ten bytes a value, at most the length of the longest varint a value, and counted byte by byte. A varint has a byte after its k-th if its number has a bit after the first 7 * k.
use mathlib.Core.Path.{◌≡◌, refl}
use mathlib.Core.List.{List, [], ◌∷◌}
use Prim.Native.Nat.{ℕ, ◌+◌, ◌*◌, ◌/◌, ◌^◌, ◌≤◌, ◌<◌, min}
use native.Mathlib.Nat.{zero-lt-suc, suc-mul, mul_comm, div-eq_of_lt, le-div_iff_mul-le, pow-le-pow_right, one-le-pow, mul-le-mul}
use native.Mathlib.Numerals.{add-one}
use native.Mathlib.Decide.{dec_lt}
use native.Mathlib.Omega.{arith}
use lib.IntN.{ℤ, pos}
use lib.ListN.{length, get_or, drop, drop_of_length-le, length-append}
use lib.Seq.{drop-cons}
use Rattle.format.specs.Encodings.{max_chunk_elements}
use Rattle.format.specs.Keys.{zigzag}
use Rattle.format.specs.Varint.{uvarint_len, varint_len}
use Rattle.format.specs.VarintBody.{varint_body}
use Rattle.format.proofs.Numbers.All.{All, all_none, all_more, all-by}
use Rattle.format.proofs.Numbers.Keys.{length-varint_bytes, varint_len-le}
use Rattle.format.proofs.Numbers.Places.{pow-pow}
use Rattle.format.proofs.Numbers.Widths.{uvarint_len-pos, uvarint_len_le, uvarint_len-lt, uvarint_len_least, uvarint_len-mono}
use Rattle.varints.specs.Lengths.{longer, capped, Within}

-- ---- at most

pub body_most : (column : List ℤ) → length (varint_body column) ≤ 10 * length column
unfolding varint_body
body_most [] = omega arith
body_most (v ∷ vs) = simp (length-append, length-varint_bytes) (omega (arith, varint_len-le v, body_most vs))

-- the length of the longest for each
pub body_longest : (column : List ℤ) (bits : ℕ) → bits < 2 ^ 64 → Within column bits → length (varint_body column) ≤ uvarint_len bits * length column
unfolding varint_body varint_len
body_longest column bits b w = rw (mul_comm (uvarint_len bits) (length column)) (go (all-by column (pos 0) w))
  where
    go : {column : List ℤ} → All (λ v. zigzag v ≤ bits) column → length (varint_body column) ≤ length column * uvarint_len bits
    go all_none = omega arith
    go (all_more {x} {xs} h r) = simp (length-append, length-varint_bytes, suc-mul) (omega (arith, uvarint_len-mono (zigzag x) bits h b, go r))

-- which is ten at most
pub longest_most : (bits count : ℕ) → count ≤ max_chunk_elements → uvarint_len bits * count ≤ 10 * max_chunk_elements
longest_most bits count few = mul-le-mul (uvarint_len_le bits) few

-- ---- byte by byte

-- a varint has one byte at least and ten at most
pub longest : (bits : ℕ) → (1 ≤ uvarint_len bits) × (uvarint_len bits ≤ 10)
longest bits = (uvarint_len-pos bits, uvarint_len_le bits)

module _ (shift : ℕ) (column : List ℤ) (i : ℕ) where
  pub longer_end : length column ≤ i → longer shift (drop i column) ≡ 0
  unfolding longer
  longer_end h = rw (drop_of_length-le column h)

  pub longer_more : i < length column → longer shift (drop i column) ≡ min (zigzag (get_or column i (pos 0)) / 2 ^ shift) 1 + longer shift (drop (i + 1) column)
  unfolding longer
  longer_more h = rw (add-one i, drop-cons column i (pos 0))

-- the k + 1st byte of a varint
byte_more : (x k : ℕ) → x < 2 ^ 64 → 1 ≤ k → min (uvarint_len x) (k + 1) ≡ min (uvarint_len x) k + min (x / 2 ^ (7 * k)) 1
byte_more x k b some = rw (mul_comm 7 k, ← pow-pow 2 7 k) (go (dec_lt x (128 ^ k)))
  where
    more : 128 ^ k ≤ x → Dec (k < uvarint_len x) → k < uvarint_len x
    more h (yes m) = m
    more h (no m) = let short : uvarint_len x ≤ k = omega arith in absurd (omega (arith, uvarint_len-lt x b, pow-le-pow_right {n = 128} (zero-lt-suc 127) short))

    go : Dec (x < 128 ^ k) → min (uvarint_len x) (k + 1) ≡ min (uvarint_len x) k + min (x / 128 ^ k) 1
    go (yes h) = rw (div-eq_of_lt h) (omega (arith, uvarint_len_least x k some h))
    go (no h) =
        let long : 128 ^ k ≤ x = omega arith in
        let one : 1 * 128 ^ k ≤ x = omega arith in
        omega (arith, more long (dec_lt k (uvarint_len x)), (le-div_iff_mul-le (one-le-pow k 128 (zero-lt-suc 127))).1 one)

-- a byte for each
pub capped_one : (column : List ℤ) → capped 1 column ≡ length column
unfolding capped varint_len
capped_one [] = omega arith
capped_one (v ∷ vs) = omega (arith, uvarint_len-pos (zigzag v), capped_one vs)

pub capped_most : (k : ℕ) (column : List ℤ) → capped k column ≤ 10 * length column
unfolding capped
capped_most k [] = omega arith
capped_most k (v ∷ vs) = omega (arith, varint_len-le v, capped_most k vs)

module _ (bits : ℕ) (b : bits < 2 ^ 64) where
  -- a byte more for some
  pub capped_more : (k : ℕ) (column : List ℤ) → 1 ≤ k → Within column bits → capped (k + 1) column ≡ capped k column + longer (7 * k) column
  unfolding capped longer varint_len
  capped_more k column some w = go (all-by column (pos 0) w)
    where
      go : {column : List ℤ} → All (λ v. zigzag v ≤ bits) column → capped (k + 1) column ≡ capped k column + longer (7 * k) column
      go all_none = omega arith
      go (all_more {x} {xs} h r) = omega (arith, byte_more (zigzag x) k (omega arith) some, go r)

  -- all bytes
  pub capped_all : (column : List ℤ) → Within column bits → capped (uvarint_len bits) column ≡ length (varint_body column)
  unfolding capped varint_body varint_len
  capped_all column w = go (all-by column (pos 0) w)
    where
      go : {column : List ℤ} → All (λ v. zigzag v ≤ bits) column → capped (uvarint_len bits) column ≡ length (varint_body column)
      go all_none = refl
      go (all_more {x} {xs} h r) = simp (length-append, length-varint_bytes) (omega (arith, uvarint_len-mono (zigzag x) bits h b, go r))
