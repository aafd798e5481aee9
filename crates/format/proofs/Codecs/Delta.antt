-- DeltaBinaryPacked: what was written is read back. One block is a varint and packed offsets; blocks in a row are taken by induction on their number; and the
-- deltas, summed again, are the column.
use mathlib.Core.Path.{◌≡◌, refl, sym, ap, ap₂, ◌∙◌}
use Prim.Native.Nat.{ℕ, zero, suc, ◌+◌, ◌-◌, ◌*◌, min}
use native.Mathlib.Nat.{add_assoc, add-zero, min_comm}
use native.Mathlib.Omega.{arith}
use mathlib.Core.List.{List, ◌∷◌, ◌++◌, map}
use lib.IntN.{ℤ, pos}
use lib.Dec.{lit≤, lit<}
use lib.ListN.{length, get_or, take, drop, length-append, length-map, length-take, length-drop}
use lib.Seq.{take-add, take_all}
use Rattle.format.specs.Outcome.{ok}
use Rattle.format.specs.Keys.{gap, wrapping_add, zigzag, unzigzag, Key}
use Rattle.format.specs.Varint.{Uvarint, uvarint_bytes, varint_bytes, read_uvarint, uvarint_at}
use Rattle.format.specs.Width.{width}
use Rattle.format.specs.Packing.{packed_len, width_at, packed_end, packed_values}
use Rattle.format.specs.Folds.{least, largest, deltas, deltas_from}
use Rattle.format.specs.BitPacked.{packed_body}
use Rattle.format.specs.Delta.{block_count, block_bytes, blocks_bytes, delta_body, validate_blocks, validate_delta, block_deltas, prefix_sums, delta_values}
use Rattle.format.proofs.Numbers.UvarintRows.{first_padded-unpadded}
use Rattle.format.proofs.Numbers.Keys.{unzigzag-zigzag, zigzag-lt}
use Rattle.format.proofs.Numbers.All.{All, all_none, all_more, all_take, all_drop}
use Rattle.format.proofs.Numbers.Columns.{deltas-keys, below-gaps, map-wrapping_add, prefix_sums-deltas, length-deltas_from}
use Rattle.format.proofs.Numbers.Extremes.{least-key}
use Rattle.format.proofs.Numbers.Occurs.{Occurs, occurs-first, occurs-next}
use Rattle.format.proofs.Codecs.Counts.{block_count-enough}
use Rattle.format.proofs.Codecs.Packed.{body-width, body-byte, body_end, body_back}
use Rattle.format.proofs.Numbers.Packing.{length-packed}
use Rattle.format.proofs.Numbers.Uvarints.{uvarint_written, read_uvarint-back, uvarint_at-back}
use Rattle.std.specs.Prelude.{Option}

-- ---- one block that occurs at a place

module _ {s : List ℕ} {at : ℕ} {ds : List ℤ} (ks : All Key ds) (h : Occurs s at (block_bytes ds)) where
  -- its parts, and its length
  block-low : Occurs s at (uvarint_bytes (zigzag (least ds)))
  unfolding block_bytes varint_bytes
  block-low = occurs-first (uvarint_bytes (zigzag (least ds))) (packed_body (map (gap (least ds)) ds)) h

  block-part : Occurs s (at + length (uvarint_bytes (zigzag (least ds)))) (packed_body (map (gap (least ds)) ds))
  unfolding block_bytes varint_bytes
  block-part = occurs-next (uvarint_bytes (zigzag (least ds))) (packed_body (map (gap (least ds)) ds)) h

  block-length : at + length (block_bytes ds) ≡ at + length (uvarint_bytes (zigzag (least ds))) + length (packed_body (map (gap (least ds)) ds))
  unfolding block_bytes varint_bytes
  block-length = rw (length-append, add_assoc)

  -- its least delta,
  pub block_read : read_uvarint s at ≡ ok (uvarint_written at (zigzag (least ds)))
  block_read = read_uvarint-back (zigzag (least ds)) (zigzag-lt (least ds) (least-key ks)) block-low

  -- (where it was read before)
  pub block_at : uvarint_at s at ≡ uvarint_written at (zigzag (least ds))
  block_at = uvarint_at-back (zigzag (least ds)) (zigzag-lt (least ds) (least-key ks)) block-low

  -- its width,
  pub block-width : width_at s (at + length (uvarint_bytes (zigzag (least ds)))) ≡ ok (width (largest (map (gap (least ds)) ds)))
  block-width = body-width (map (gap (least ds)) ds) (below-gaps (least ds) ds) block-part

  -- its width byte,
  pub block-byte : get_or s (at + length (uvarint_bytes (zigzag (least ds)))) 0 ≡ width (largest (map (gap (least ds)) ds))
  block-byte = body-byte (map (gap (least ds)) ds) (below-gaps (least ds) ds) block-part

  -- its end,
  pub block-end :
      packed_end s (at + length (uvarint_bytes (zigzag (least ds))) + 1) (width (largest (map (gap (least ds)) ds))) (length ds)
      ≡ ok (at + length (block_bytes ds))
  block-end =
      rw (block-length, ← length-map ds (gap (least ds)))
      (body_end (map (gap (least ds)) ds) (below-gaps (least ds) ds) block-part)

  -- the place after it,
  pub block-after :
      at + length (uvarint_bytes (zigzag (least ds))) + 1 + packed_len (length ds) (width (largest (map (gap (least ds)) ds))) ≡ at + length (block_bytes ds)
  unfolding packed_body
  block-after =
      omega (
        arith,
        block-length,
        length-packed (width (largest (map (gap (least ds)) ds))) (map (gap (least ds)) ds),
        ap (λ (n : ℕ). packed_len n (width (largest (map (gap (least ds)) ds)))) (length-map ds (gap (least ds))),
      )

  -- and its deltas
  pub block_back :
      map (λ n. wrapping_add (unzigzag (zigzag (least ds))) (pos n))
      (packed_values s (at + length (uvarint_bytes (zigzag (least ds))) + 1) (width (largest (map (gap (least ds)) ds))) (length ds))
      ≡ ds
  block_back =
      rw (unzigzag-zigzag (least ds), ← length-map ds (gap (least ds)), body_back (map (gap (least ds)) ds) (below-gaps (least ds) ds) block-part)
      (map-wrapping_add (least ds) ks)

-- ---- blocks in a row

-- the deltas of the next block, and those after it
next-block : (ds : List ℤ) → min (length ds) 128 ≡ length (take 128 ds)
next-block ds = min_comm (length ds) 128 ∙ sym (length-take 128 ds)

left-blocks : (ds : List ℤ) → length ds - length (take 128 ds) ≡ length (drop 128 ds)
left-blocks ds = omega (arith, length-take 128 ds, length-drop 128 ds)

-- the deltas of a block of n, by its least delta and its width, and of the k blocks after it
abbrev from_low : List ℕ → ℕ → ℕ → Uvarint → ℕ → ℕ → List ℤ
from_low s k left low w n =
    map (λ m. wrapping_add (unzigzag low.value) (pos m)) (packed_values s (low.next + 1) w n)
    ++ block_deltas s 128 (low.next + 1 + packed_len n w) k (left - n)

-- k blocks that occur at a place: their end,
pub blocks-validate :
    {s : List ℕ} {at : ℕ} {ds : List ℤ} (k : ℕ) (padded : Option ℕ) → All Key ds → Occurs s at (blocks_bytes k ds)
    → validate_blocks s 128 at k (length ds) padded ≡ ok (record { end = at + length (blocks_bytes k ds); padded = padded })
unfolding validate_blocks blocks_bytes
blocks-validate {at} zero padded ks h = ap (λ (n : ℕ). ok (record { end = n; padded = padded })) (sym (add-zero at))
blocks-validate {s} {at} {ds} (suc k) padded ks h =
    let a : List ℕ = block_bytes (take 128 ds) in
    let b : List ℕ = blocks_bytes k (drop 128 ds) in
    let ka : All Key (take 128 ds) = all_take 128 ks in
    let ha : Occurs s at a = occurs-first a b h in
    rw (block_read ka ha, block-width ka ha, next-block ds, block-end ka ha, left-blocks ds, first_padded-unpadded padded at, length-append a b, ← add_assoc)
    (blocks-validate {at = at + length a} k padded (all_drop 128 ks) (occurs-next a b h))

-- and their deltas: so many as k blocks have
pub blocks-back :
    {s : List ℕ} {at : ℕ} {ds : List ℤ} (k : ℕ) → All Key ds → Occurs s at (blocks_bytes k ds)
    → block_deltas s 128 at k (length ds) ≡ take (k * 128) ds
unfolding block_deltas blocks_bytes
blocks-back zero ks h = refl
blocks-back {s} {at} {ds} (suc k) ks h =
    let a : List ℕ = block_bytes (take 128 ds) in
    let b : List ℕ = blocks_bytes k (drop 128 ds) in
    let ka : All Key (take 128 ds) = all_take 128 ks in
    let ha : Occurs s at a = occurs-first a b h in
    let n : ℕ = length (take 128 ds) in
    let all : 128 + k * 128 ≡ suc k * 128 = omega arith in
    ap₂ (λ (low : Uvarint) (m : ℕ). from_low s k (length ds) low (get_or s low.next 0) m) (block_at ka ha) (next-block ds)
    ∙ ap (λ (w : ℕ). from_low s k (length ds) (uvarint_written at (zigzag (least (take 128 ds)))) w n) (block-byte ka ha)
    ∙ ap₂ (λ (x y : List ℤ). x ++ y) (block_back ka ha)
    (ap₂ (λ (p l : ℕ). block_deltas s 128 p k l) (block-after ka ha) (left-blocks ds) ∙ blocks-back {at = at + length a} k (all_drop 128 ks) (occurs-next a b h))
    ∙ sym (take-add 128 (k * 128) ds)
    ∙ ap (λ (m : ℕ). take m ds) all

-- ---- the body

-- the first value, the block size and the blocks occur in a row
module _ {s : List ℕ} {at : ℕ} (first : ℤ) (rest : List ℤ) (h : Occurs s at (delta_body (first ∷ rest))) where
  blocks : List ℕ
  blocks = blocks_bytes (block_count 128 (length (deltas_from first rest))) (deltas_from first rest)

  delta-first : Occurs s at (uvarint_bytes (zigzag first))
  unfolding delta_body deltas varint_bytes blocks
  delta-first = occurs-first (uvarint_bytes (zigzag first)) (uvarint_bytes 128 ++ blocks) h

  delta-size : Occurs s (at + length (uvarint_bytes (zigzag first))) (uvarint_bytes 128)
  unfolding delta_body deltas varint_bytes blocks
  delta-size = occurs-first (uvarint_bytes 128) blocks (occurs-next (uvarint_bytes (zigzag first)) (uvarint_bytes 128 ++ blocks) h)

  delta-blocks :
      Occurs s (at + length (uvarint_bytes (zigzag first)) + length (uvarint_bytes 128)) (blocks_bytes (block_count 128 (length (deltas_from first rest))) (deltas_from first rest))
  unfolding delta_body deltas varint_bytes blocks
  delta-blocks = occurs-next (uvarint_bytes 128) blocks (occurs-next (uvarint_bytes (zigzag first)) (uvarint_bytes 128 ++ blocks) h)

-- DeltaBinaryPacked: the end of a body that occurs at a place,
pub delta-validate :
    {s : List ℕ} {at : ℕ} {column : List ℤ} → All Key column → Occurs s at (delta_body column) → (padded : Option ℕ)
    → validate_delta s at (length column) padded ≡ ok (record { end = at + length (delta_body column); padded = padded })
unfolding validate_delta delta_body deltas varint_bytes
delta-validate {at} all_none h padded = ap (λ (n : ℕ). ok (record { end = n; padded = padded })) (sym (add-zero at))
delta-validate {s} {at} (all_more {x} {xs} k r) h padded =
    let ds : List ℤ = deltas_from x xs in
    let a : List ℕ = uvarint_bytes (zigzag x) in
    let b : List ℕ = uvarint_bytes 128 in
    let c : List ℕ = blocks_bytes (block_count 128 (length ds)) ds in
    let e : at + length a + length b + length c ≡ at + length (a ++ (b ++ c)) = omega (arith, length-append a (b ++ c), length-append b c) in
    rw (
      read_uvarint-back (zigzag x) (zigzag-lt x k) (delta-first x xs h),
      read_uvarint-back 128 (lit< tt) (delta-size x xs h),
      first_padded-unpadded padded at,
      first_padded-unpadded padded (at + length a),
      ← length-deltas_from x xs,
      ← e,
    )
    (blocks-validate (block_count 128 (length ds)) padded (deltas-keys (x ∷ xs)) (delta-blocks x xs h))

-- and its values
pub delta-back : {s : List ℕ} {at : ℕ} {column : List ℤ} → All Key column → Occurs s at (delta_body column) → delta_values s at (length column) ≡ column
unfolding delta_values deltas
delta-back all_none h = refl
delta-back {s} {at} (all_more {x} {xs} k r) h =
    let ds : List ℤ = deltas_from x xs in
    ap {B = List ℤ}
    (λ (first : Uvarint).
    unzigzag first.value
    ∷ prefix_sums (unzigzag first.value)
    (block_deltas s (uvarint_at s first.next).value (uvarint_at s first.next).next (block_count (uvarint_at s first.next).value (length xs)) (length xs)))
    (uvarint_at-back (zigzag x) (zigzag-lt x k) (delta-first x xs h))
    ∙ ap {B = List ℤ}
    (λ (size : Uvarint).
    unzigzag (zigzag x)
    ∷ prefix_sums (unzigzag (zigzag x)) (block_deltas s size.value size.next (block_count size.value (length xs)) (length xs)))
    (uvarint_at-back 128 (lit< tt) (delta-size x xs h))
    ∙ rw (unzigzag-zigzag x, ← length-deltas_from x xs)
    (ap {B = List ℤ} (λ l. x ∷ l)
    (ap (prefix_sums x) (blocks-back (block_count 128 (length ds)) (deltas-keys (x ∷ xs)) (delta-blocks x xs h) ∙ take_all _ ds (block_count-enough 128 (length ds) (lit≤ tt)))
    ∙ prefix_sums-deltas x r))
