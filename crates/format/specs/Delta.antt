-- 7. DeltaBinaryPacked (01, "The chunk"): "with count 0 nothing more. Else first value, block size (written 128), then per block of deltas: least delta as signed
-- varint, width byte, packed offsets. The last block may be shorter."
use Rattle.std.specs.Prelude.{ℕ, zero, suc, ◌+◌, ◌-◌, ◌/◌, ◌^◌, min, List, [], ◌∷◌, ◌++◌, map, ℤ, pos, length, get_or, take, drop, Option}
use Rattle.format.specs.Outcome.{Outcome, ok, check, ◌>>=◌}
use Rattle.format.specs.Keys.{gap, wrapping_add, unzigzag}
use Rattle.format.specs.declared.Extent.{Extent}
use Rattle.format.specs.Varint.{uvarint_bytes, varint_bytes, read_uvarint, uvarint_at, first_padded}
use Rattle.format.specs.Packing.{packed_len, width_at, packed_end, packed_values}
use Rattle.format.specs.Folds.{least, deltas}
use Rattle.format.specs.Encodings.{within}
use Rattle.format.specs.BitPacked.{packed_body}

-- "block size (written 128)"
abbrev pub delta_block_size : ℕ
delta_block_size = 128

-- how many blocks of a size n deltas make: "The last block may be shorter."
unfoldable pub block_count : ℕ → ℕ → ℕ
block_count size n = (n + (size - 1)) / size

-- ---- writing

-- one block: "least delta as signed varint, width byte, packed offsets"
unfoldable pub block_bytes : List ℤ → List ℕ
block_bytes ds = varint_bytes (least ds) ++ packed_body (map (gap (least ds)) ds)

-- k blocks of the deltas: a walk in which ds are still to come
unfoldable pub blocks_bytes : ℕ → List ℤ → List ℕ
blocks_bytes zero ds = []
blocks_bytes (suc k) ds = block_bytes (take delta_block_size ds) ++ blocks_bytes k (drop delta_block_size ds)

-- what writing stores after the header
unfoldable pub delta_body : List ℤ → List ℕ
delta_body [] = []
delta_body (first ∷ rest) =
    let ds = deltas (first ∷ rest) in
    varint_bytes first ++ (uvarint_bytes delta_block_size ++ blocks_bytes (block_count delta_block_size (length ds)) ds)

-- ---- reading

-- A walk from `at` on: k blocks are still to come, with `left` deltas. "The packed body of a delta block begins in the middle of the chunk and is
-- unpacked from there."
unfoldable pub validate_blocks : List ℕ → ℕ → ℕ → ℕ → ℕ → Option ℕ → Outcome Extent
validate_blocks s size at zero left padded = ok (record { end = at; padded = padded })
validate_blocks s size at (suc k) left padded = do
  low ← read_uvarint s at
  w ← width_at s low.next
  end ← packed_end s (low.next + 1) w (min left size)
  validate_blocks s size end k (left - min left size) (first_padded padded at low.unpadded)

-- reading, from the body's start on: "with count 0 nothing more"; "Block size 1 to 2^20? 19, just after."
unfoldable pub validate_delta : List ℕ → ℕ → ℕ → Option ℕ → Outcome Extent
validate_delta s start zero padded = ok (record { end = start; padded = padded })
validate_delta s start (suc left) padded = do
  first ← read_uvarint s start
  size ← read_uvarint s first.next
  _ ← check (within 1 (2 ^ 20) size.value) 19 size.next
  validate_blocks s size.value size.next (block_count size.value left) left
      (first_padded (first_padded padded start first.unpadded) first.next size.unpadded)

-- the deltas of k blocks that were read: a walk from `at` on, with `left` deltas still to come
unfoldable pub block_deltas : List ℕ → ℕ → ℕ → ℕ → ℕ → List ℤ
block_deltas s size at zero left = []
block_deltas s size at (suc k) left =
    let low = uvarint_at s at in
    let w = get_or s low.next 0 in
    map (λ n. wrapping_add (unzigzag low.value) (pos n)) (packed_values s (low.next + 1) w (min left size))
    ++ block_deltas s size (low.next + 1 + packed_len (min left size) w) k (left - min left size)

-- the values after `last`, by their deltas: "every sum on reading wraps"
unfoldable pub prefix_sums : ℤ → List ℤ → List ℤ
prefix_sums last [] = []
prefix_sums last (d ∷ ds) = wrapping_add last d ∷ prefix_sums (wrapping_add last d) ds

-- the values of a body that was read
unfoldable pub delta_values : List ℕ → ℕ → ℕ → List ℤ
delta_values s start zero = []
delta_values s start (suc left) =
    let first = uvarint_at s start in
    let size = uvarint_at s first.next in
    unzigzag first.value ∷ prefix_sums (unzigzag first.value) (block_deltas s size.value size.next (block_count size.value left) left)
