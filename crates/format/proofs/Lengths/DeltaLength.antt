-- Delta: the exact length of the chunk, as a sum over its blocks (what writing has to find before it stores a byte). A block's width is that of its span, the
-- largest number packed, since every delta is a key.
use mathlib.Core.Path.{◌≡◌, refl, ap₂, ◌∙◌}
use Prim.Native.Nat.{ℕ, zero, suc, ◌+◌}
use native.Mathlib.Omega.{arith}
use mathlib.Core.List.{List, [], ◌∷◌}
use lib.IntN.{ℤ}
use lib.Count.{count_leading_zeros}
use lib.ListN.{length, take, drop, length-append}
use Rattle.format.specs.Keys.{gap, Key}
use Rattle.format.specs.Varint.{uvarint_len, varint_len}
use Rattle.format.specs.Width.{width}
use Rattle.format.specs.Packing.{packed_len}
use Rattle.format.specs.Folds.{least, greatest, deltas}
use Rattle.format.specs.Header.{header_len}
use Rattle.format.specs.Delta.{delta_block_size, block_count, block_bytes, blocks_bytes, delta_body}
use Rattle.format.specs.Chunk.{body_of, chunk_of}
use Rattle.format.specs.declared.encoding.Encoding.TheVariants.{DeltaBinaryPacked}
use Rattle.format.proofs.Numbers.Uvarints.{length-uvarint_bytes}
use Rattle.format.proofs.Numbers.Keys.{length-varint_bytes}
use Rattle.format.proofs.Numbers.All.{All, all_take, all_drop}
use Rattle.format.proofs.Numbers.Columns.{deltas-keys, length-deltas}
use Rattle.format.proofs.Numbers.Extremes.{largest-gaps}
use Rattle.format.proofs.Lengths.Parts.{length-block_bytes}
use Rattle.format.proofs.Lengths.Exact.{length-chunk}

-- the bytes of one block, by its least and greatest delta
unfoldable pub block_len : List ℤ → ℕ
block_len ds = varint_len (least ds) + (1 + packed_len (length ds) (width (gap (least ds) (greatest ds))))

-- the bytes of k blocks: a walk in which ds are still to come
unfoldable pub blocks_len : ℕ → List ℤ → ℕ
blocks_len zero ds = 0
blocks_len (suc k) ds = block_len (take delta_block_size ds) + blocks_len k (drop delta_block_size ds)

-- a block of keys has that length,
pub length-block : (ds : List ℤ) → All Key ds → length (block_bytes ds) ≡ block_len ds
unfolding block_len
length-block ds keys = length-block_bytes ds ∙ rw (largest-gaps ds keys)

-- and so have k blocks
pub length-blocks : (k : ℕ) (ds : List ℤ) → All Key ds → length (blocks_bytes k ds) ≡ blocks_len k ds
unfolding blocks_bytes blocks_len
length-blocks zero ds keys = refl
length-blocks (suc k) ds keys =
    length-append (block_bytes (take 128 ds)) (blocks_bytes k (drop 128 ds))
    ∙ ap₂ (λ (a b : ℕ). a + b) (length-block (take 128 ds) (all_take 128 keys)) (length-blocks k (drop 128 ds) (all_drop 128 keys))

-- the block size takes two bytes
pub delta_block_size-len : uvarint_len delta_block_size ≡ 2
unfolding uvarint_len width count_leading_zeros
delta_block_size-len = refl

-- the chunk of a column that is not empty: header, first value, block size, and the blocks
pub delta-length :
    (first : ℤ) (rest : List ℤ)
    → length (chunk_of DeltaBinaryPacked (first ∷ rest))
    ≡ header_len (length (first ∷ rest)) + (varint_len first + (2 + blocks_len (block_count delta_block_size (length rest)) (deltas (first ∷ rest))))
unfolding body_of delta_body
delta-length first rest =
    length-chunk DeltaBinaryPacked (first ∷ rest)
    ∙ simp (
      length-append,
      length-varint_bytes,
      length-uvarint_bytes,
      delta_block_size-len,
      length-deltas,
      length-blocks (block_count delta_block_size (length rest)) (deltas (first ∷ rest)) (deltas-keys (first ∷ rest)),
    )

-- the chunk of the empty column is a header alone: "with count 0 nothing more"
pub delta-length-none : length (chunk_of DeltaBinaryPacked []) ≡ header_len 0
unfolding body_of delta_body
delta-length-none = length-chunk DeltaBinaryPacked [] ∙ omega arith
