-- How long an estimate can be, for a column of up to 2^24 values: at most 335,544,336 bytes, and Plain's at most 134,217,734. So every number that is summed
-- up on the way fits 64 bits, and is exact as an f64. A varint has at most 10 bytes and a packed number at most 8, and an estimate has at most two of these a
-- value, beside its header and the like.
use mathlib.Core.Path.{◌≡◌}
use Prim.Native.Nat.{ℕ, ◌+◌, ◌-◌, ◌*◌, max, ◌≤◌}
use native.Mathlib.Nat.{le_trans, mul-le-mul_left, suc-mul}
use native.Mathlib.Decide.{dec_le}
use native.Mathlib.Omega.{arith}
use mathlib.Core.Bool.{true}
use mathlib.Core.List.{List, [], ◌∷◌, map}
use lib.IntN.{ℤ, pos}
use lib.ListN.{length, get_or}
use Rattle.format.specs.Keys.{gap, zigzag}
use Rattle.format.specs.Varint.{uvarint_len, varint_len}
use Rattle.format.specs.Width.{width}
use Rattle.format.specs.Encodings.{max_chunk_elements, max_dictionary_cardinality}
use Rattle.format.specs.Folds.{least, greatest, largest, total, deltas}
use Rattle.format.specs.Header.{header_len}
use Rattle.format.specs.Runs.{Run, runs}
use Rattle.format.specs.Distinct.{distinct}
use Rattle.format.specs.Dictionary.{code_width}
use Rattle.format.specs.Delta.{delta_block_size, block_count}
use Rattle.format.specs.Statistics.{run_len}
use Rattle.format.specs.Estimates.{gaps_len, entries_len, estimates_of, length_in, available_in}
use Rattle.format.specs.declared.encoding.Encoding.{Encoding}
use Rattle.format.specs.declared.encoding.Encoding.TheVariants.{Plain, Varint, BitPacked, FrameOfReference, RunLength, Dictionary, DeltaBinaryPacked}
use Rattle.format.proofs.Numbers.Widths.{width-le, uvarint_len-pos, uvarint_len_le, uvarint_len_least}
use Rattle.format.proofs.Numbers.Packing.{packed_len-most}
use Rattle.format.proofs.Numbers.Distinct.{length-distinct}
use Rattle.format.proofs.Codecs.RunLength.{length_runs}
use Rattle.format.proofs.Lengths.Estimates.{plain-estimate, varint-estimate, bit_packed-estimate, frame-estimate, run_length-estimate, dictionary-estimate, delta-estimate, dictionary-none, delta-none, dictionary-few, delta-two}
use Rattle.format.proofs.Lengths.DeltaLength.{delta_block_size-len}
use Rattle.format.proofs.Numbers.Keys.{varint_len-le}

-- ---- the parts

-- a run has at most 20
pub run_len-le : (r : Run) → run_len r ≤ 20
unfolding run_len
run_len-le r = omega (arith, varint_len-le r.key, uvarint_len_le r.times)

-- a sum of numbers of at most c each
total-most {ℓ} : {A : Type ℓ} (f : A → ℕ) (c : ℕ) (l : List A) → ((a : A) → f a ≤ c) → total (map f l) ≤ length l * c
unfolding total
total-most f c [] h = omega arith
total-most f c (a ∷ as') h = rw suc-mul (omega (arith, h a, total-most f c as' h))

-- `varint_body_bytes` is at most 10 bytes a value
pub total-varint_len-most : (column : List ℤ) → total (map varint_len column) ≤ 10 * length column
total-varint_len-most column = omega (arith, total-most varint_len 10 column varint_len-le)

-- `run_length_body_bytes` is at most 20 bytes a value
pub total-run_len-most : (column : List ℤ) → total (map run_len (runs column)) ≤ 20 * length column
total-run_len-most column = omega (arith, total-most run_len 20 (runs column) run_len-le, length_runs column)

-- the gaps of a dictionary have at most 10 bytes each,
gaps_len-most : (last : ℤ) (es : List ℤ) → gaps_len last es ≤ 10 * length es
unfolding gaps_len
gaps_len-most last [] = omega arith
gaps_len-most last (e ∷ es) = omega (arith, uvarint_len_le (gap last e), gaps_len-most e es)

-- and so have its entries
pub entries_len-most : (es : List ℤ) → entries_len es ≤ 10 * length es
unfolding entries_len
entries_len-most [] = omega arith
entries_len-most (e ∷ es) = omega (arith, varint_len-le e, gaps_len-most e es)

-- the width of codes is at most 64
pub code_width-le : (entries : ℕ) → code_width entries ≤ 64
unfolding code_width
code_width-le entries = width-le (entries - 1)

-- a header has at least 3 bytes
header_len-some : (n : ℕ) → 3 ≤ header_len n
unfolding header_len
header_len-some n = omega (arith, uvarint_len-pos n)

-- the varint of a count has at most 4 bytes,
pub uvarint_len-count : (n : ℕ) → n ≤ max_chunk_elements → uvarint_len n ≤ 4
uvarint_len-count n h = uvarint_len_least n 4 (omega arith) (omega arith)

-- so the header has at most 6
pub header_len-most : (n : ℕ) → n ≤ max_chunk_elements → header_len n ≤ 6
unfolding header_len
header_len-most n h = omega (arith, uvarint_len-count n h)

-- ---- the estimates of a column of up to 2^24 values, each

module _ (column : List ℤ) (size : length column ≤ max_chunk_elements) where
  -- Plain
  pub plain-most : length_in (estimates_of column) Plain ≤ 6 + 8 * length column
  plain-most = rw plain-estimate (omega (arith, header_len-most (length column) size))

  -- Varint
  pub varint-most : length_in (estimates_of column) Varint ≤ 6 + 10 * length column
  varint-most = rw varint-estimate (omega (arith, header_len-most (length column) size, total-varint_len-most column))

  -- BitPacked
  pub bit_packed-most : length_in (estimates_of column) BitPacked ≤ 7 + 8 * length column
  bit_packed-most =
      let w : ℕ = width (largest (map zigzag column)) in
      rw bit_packed-estimate (omega (arith, header_len-most (length column) size, packed_len-most (length column) w (width-le (largest (map zigzag column)))))

  -- FrameOfReference
  pub frame-most : length_in (estimates_of column) FrameOfReference ≤ 15 + 8 * length column
  frame-most =
      let s : ℕ = gap (least column) (greatest column) in
      rw frame-estimate (omega (arith, header_len-most (length column) size, packed_len-most (length column) (width s) (width-le s)))

  -- RunLength
  pub run_length-most : length_in (estimates_of column) RunLength ≤ 10 + 20 * length column
  run_length-most =
      let runs-size : length (runs column) ≤ max_chunk_elements = le_trans (length_runs column) size in
      rw run_length-estimate (omega (arith, header_len-most (length column) size, uvarint_len-count (length (runs column)) runs-size, total-run_len-most column))

  -- Dictionary, available or not
  pub dictionary-most : length_in (estimates_of column) Dictionary ≤ 11 + 18 * length column
  dictionary-most = go (dec_le (length (distinct column)) max_dictionary_cardinality)
    where
      go : Dec (length (distinct column) ≤ max_dictionary_cardinality) → length_in (estimates_of column) Dictionary ≤ 11 + 18 * length column
      go (yes few) =
          let d : ℕ = length (distinct column) in
          rw (dictionary-estimate column few)
          (omega (
            arith,
            header_len-most (length column) size,
            uvarint_len-count d (le_trans (length-distinct column) size),
            length-distinct column,
            entries_len-most (distinct column),
            packed_len-most (length column) (code_width d) (code_width-le d),
          ))
      go (no many) = rw (dictionary-none column (omega arith)) (omega arith)

  -- Delta, available or not
  pub delta-estimate-most : length_in (estimates_of column) DeltaBinaryPacked ≤ 19 + 9 * length column
  unfolding block_count
  delta-estimate-most = go (dec_le 2 (length column))
    where
      go : Dec (2 ≤ length column) → length_in (estimates_of column) DeltaBinaryPacked ≤ 19 + 9 * length column
      go (yes two) =
          let n : ℕ = length column - 1 in
          let a : ℤ = least (deltas column) in
          let b : ℤ = greatest (deltas column) in
          let charge : max (varint_len a) (varint_len b) + 1 ≤ 11 = omega (arith, varint_len-le a, varint_len-le b) in
          rw (delta-estimate column two)
          (omega (
            arith,
            header_len-most (length column) size,
            varint_len-le (get_or column 0 (pos 0)),
            delta_block_size-len,
            mul-le-mul_left (block_count delta_block_size n) charge,
            packed_len-most n (width (gap a b)) (width-le (gap a b)),
          ))
      go (no one) = rw (delta-none column (omega arith)) (omega arith)

  -- each is at most 20 bytes a value and 16 more
  pub estimate-most : (e : Encoding) → length_in (estimates_of column) e ≤ 16 + 20 * length column
  estimate-most Plain = omega (arith, plain-most)
  estimate-most Varint = omega (arith, varint-most)
  estimate-most BitPacked = omega (arith, bit_packed-most)
  estimate-most FrameOfReference = omega (arith, frame-most)
  estimate-most RunLength = omega (arith, run_length-most)
  estimate-most Dictionary = omega (arith, dictionary-most)
  estimate-most DeltaBinaryPacked = delta-below (dec_le 2 (length column))
    where
      delta-below : Dec (2 ≤ length column) → length_in (estimates_of column) DeltaBinaryPacked ≤ 16 + 20 * length column
      delta-below (yes two) = omega (arith, delta-estimate-most)
      delta-below (no one) = rw (delta-none column (omega arith)) (omega arith)

  -- in numbers: Plain is at most 134,217,734,
  pub plain-limit : length_in (estimates_of column) Plain ≤ 134217734
  plain-limit = omega (arith, plain-most)

  -- and each at most 335,544,336, which is below 2 ^ 29
  pub estimate-limit : (e : Encoding) → length_in (estimates_of column) e ≤ 335544336
  estimate-limit e = omega (arith, estimate-most e)

-- ---- from below

module _ (column : List ℤ) where
  -- an available estimate is at least the header's length,
  pub estimate-header : (e : Encoding) → available_in (estimates_of column) e ≡ true → header_len (length column) ≤ length_in (estimates_of column) e
  estimate-header Plain there = rw plain-estimate (omega arith)
  estimate-header Varint there = rw varint-estimate (omega arith)
  estimate-header BitPacked there = rw bit_packed-estimate (omega arith)
  estimate-header FrameOfReference there = rw frame-estimate (omega arith)
  estimate-header RunLength there = rw run_length-estimate (omega arith)
  estimate-header Dictionary there = rw (dictionary-estimate column (dictionary-few column there)) (omega arith)
  estimate-header DeltaBinaryPacked there = rw (delta-estimate column (delta-two column there)) (omega arith)

  -- so at least 3
  pub estimate-some : (e : Encoding) → available_in (estimates_of column) e ≡ true → 3 ≤ length_in (estimates_of column) e
  estimate-some e there = le_trans (header_len-some (length column)) (estimate-header e there)

  -- Plain's is at least 11, where there is a value
  pub plain-some : 1 ≤ length column → 11 ≤ length_in (estimates_of column) Plain
  plain-some h = rw plain-estimate (omega (arith, header_len-some (length column)))
