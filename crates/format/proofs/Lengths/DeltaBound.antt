-- Delta: the chunk has at most the estimated bytes. A block's deltas lie between the least and the greatest of all deltas; so its least delta takes no more
-- bytes than the longer of those two, and its width is at most that of the whole span. At that width the deltas take as many bytes block by block as packed
-- in one piece, since every block but the last fills whole bytes.
use mathlib.Core.Path.{◌≡◌}
use Prim.Native.Nat.{ℕ, zero, suc, ◌+◌, ◌-◌, ◌*◌, max, min, ◌≤◌, ◌<◌}
use native.Mathlib.Nat.{suc-mul}
use native.Mathlib.Omega.{arith}
use mathlib.Core.List.{List, [], ◌∷◌}
use lib.IntN.{ℤ}
use lib.Signed.{◌≤ℤ◌}
use lib.ListN.{length, take, drop, length-take, length-drop}
use Rattle.format.specs.Keys.{gap, Key}
use Rattle.format.specs.Varint.{varint_len}
use Rattle.format.specs.Width.{width}
use Rattle.format.specs.Packing.{packed_len}
use Rattle.format.specs.Folds.{least, greatest, deltas}
use Rattle.format.specs.Delta.{block_count}
use Rattle.format.specs.Chunk.{chunk_of}
use Rattle.format.specs.Estimates.{estimates_of, length_in}
use Rattle.format.specs.declared.encoding.Encoding.TheVariants.{DeltaBinaryPacked}
use Rattle.format.proofs.Numbers.Widths.{width-mono}
use Rattle.format.proofs.Numbers.Keys.{gap-lt}
use Rattle.format.proofs.Numbers.All.{All, all_take, all_drop}
use Rattle.format.proofs.Numbers.Columns.{deltas-keys, length-deltas}
use Rattle.format.proofs.Numbers.Extremes.{least-all, greatest-all, span-part, varint_len-part}
use Rattle.format.proofs.Numbers.Packing.{packed_len-mono, packed_len-split}
use Rattle.format.proofs.Codecs.Counts.{block_count-enough}
use Rattle.format.proofs.Lengths.Estimates.{delta-estimate}
use Rattle.format.proofs.Lengths.DeltaLength.{block_len, blocks_len, delta_block_size-len, delta-length}

-- `part` holds keys from the least to the greatest of `whole`
record Part (whole part : List ℤ) : Type 0 where
  keys : All Key part
  low : All (λ v. least whole ≤ℤ v) part
  high : All (λ v. v ≤ℤ greatest whole) part

-- as the whole does itself,
part-self : (whole : List ℤ) → All Key whole → Part whole whole
part-self whole keys = record { keys = keys; low = least-all whole; high = greatest-all whole }

-- the front of a part,
part-take : {whole part : List ℤ} (n : ℕ) → Part whole part → Part whole (take n part)
part-take n p = record { keys = all_take n p.keys; low = all_take n p.low; high = all_take n p.high }

-- and a part without its front
part-drop : {whole part : List ℤ} (n : ℕ) → Part whole part → Part whole (drop n part)
part-drop n p = record { keys = all_drop n p.keys; low = all_drop n p.low; high = all_drop n p.high }

-- "charges every block the longer varint of the least and greatest delta, plus 1"
unfoldable block_charge : List ℤ → ℕ
block_charge whole = max (varint_len (least whole)) (varint_len (greatest whole)) + 1

-- "the width of their whole span"
unfoldable span_width : List ℤ → ℕ
span_width whole = width (gap (least whole) (greatest whole))

module _ (whole : List ℤ) (keys : All Key whole) where
  -- the width of a part's span is at most that of the whole's
  part-width : (part : List ℤ) → 0 < length part → Part whole part → span_width part ≤ span_width whole
  unfolding span_width
  part-width part some p =
      width-mono (gap (least part) (greatest part)) (gap (least whole) (greatest whole))
      (span-part whole part keys p.keys some p.low p.high) (gap-lt (least whole) (greatest whole))

  -- one block takes at most its charge, and its deltas packed at the width of the whole span
  block-most : (part : List ℤ) → 0 < length part → Part whole part → block_len part ≤ block_charge whole + packed_len (length part) (span_width whole)
  unfolding block_len block_charge span_width
  block-most part some p =
      omega (
        arith,
        varint_len-part whole part keys some p.low p.high,
        packed_len-mono (length part) (span_width part) (span_width whole) (part-width part some p),
      )

  -- k blocks, the last of them perhaps shorter, take at most the charges, and all deltas packed at that width
  blocks-most :
      (k : ℕ) (part : List ℤ) → length part ≤ 128 * k → 128 * k < length part + 128 → Part whole part
      → blocks_len k part ≤ k * block_charge whole + packed_len (length part) (span_width whole)
  unfolding blocks_len
  blocks-most zero part enough last p = omega arith
  blocks-most (suc k) part enough last p =
      let n : ℕ = length part in
      let w : ℕ = span_width whole in
      let front_length : length (take 128 part) ≡ min 128 n = length-take 128 part in
      let rest-length : length (drop 128 part) ≡ n - 128 = length-drop 128 part in
      let front : block_len (take 128 part) ≤ block_charge whole + packed_len (min 128 n) w =
      rw front_length at (block-most (take 128 part) (omega arith) (part-take 128 p)) in
      let rest : blocks_len k (drop 128 part) ≤ k * block_charge whole + packed_len (n - 128) w =
      rw rest-length at (blocks-most k (drop 128 part) (omega arith) (omega arith) (part-drop 128 p)) in
      rw suc-mul (omega (arith, packed_len-split n w))

-- the last of the blocks that are written holds one delta at least
block_count-last : (n : ℕ) → 128 * block_count 128 n < n + 128
unfolding block_count
block_count-last n = omega arith

-- so all blocks take at most the charges, and all deltas packed at the width of their span
blocks_len-most :
    (ds : List ℤ) → All Key ds
    → blocks_len (block_count 128 (length ds)) ds ≤ block_count 128 (length ds) * block_charge ds + packed_len (length ds) (span_width ds)
blocks_len-most ds keys =
    let enough : length ds ≤ 128 * block_count 128 (length ds) = omega (arith, block_count-enough 128 (length ds) (omega arith)) in
    blocks-most ds keys (block_count 128 (length ds)) ds enough (block_count-last (length ds)) (part-self ds keys)

-- Delta, of two values or more: the chunk has at most the estimated bytes
pub delta-most : (column : List ℤ) → 2 ≤ length column → length (chunk_of DeltaBinaryPacked column) ≤ length_in (estimates_of column) DeltaBinaryPacked
unfolding block_charge span_width
delta-most [] two = absurd (omega arith)
delta-most (first ∷ rest) two =
    let count : length (deltas (first ∷ rest)) ≡ length rest = length-deltas first rest in
    let count-less-one : length (first ∷ rest) - 1 ≡ length rest = omega arith in
    let blocks = rw count at (blocks_len-most (deltas (first ∷ rest)) (deltas-keys (first ∷ rest))) in
    rw (delta-estimate (first ∷ rest) two, delta-length first rest, count-less-one, delta_block_size-len) (omega arith)
