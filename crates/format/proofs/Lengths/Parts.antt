-- How many bytes each piece of a chunk has, for any numbers: varints, words, packed numbers, and lists of them.
use mathlib.Core.Path.{◌≡◌, refl}
use Prim.Native.Nat.{ℕ, ◌+◌, ◌*◌}
use native.Mathlib.Omega.{arith}
use mathlib.Core.List.{List, [], ◌∷◌, map}
use lib.IntN.{ℤ}
use lib.ListN.{length, length-append, length-map}
use Rattle.format.specs.Keys.{gap}
use Rattle.format.specs.Varint.{varint_len}
use Rattle.format.specs.Width.{width}
use Rattle.format.specs.Packing.{packed_len}
use Rattle.format.specs.Folds.{largest, total, least}
use Rattle.format.specs.Plain.{plain_body}
use Rattle.format.specs.VarintBody.{varint_body}
use Rattle.format.specs.BitPacked.{packed_body}
use Rattle.format.specs.Runs.{Run, run_bytes}
use Rattle.format.specs.Dictionary.{gap_bytes, entry_bytes}
use Rattle.format.specs.Delta.{block_bytes}
use Rattle.format.specs.Statistics.{run_len}
use Rattle.format.specs.Estimates.{gaps_len, entries_len}
use Rattle.format.proofs.Numbers.Uvarints.{length-uvarint_bytes}
use Rattle.format.proofs.Numbers.Keys.{length-key_bytes, length-varint_bytes}
use Rattle.format.proofs.Numbers.Packing.{length-packed}

-- a width byte and the numbers packed at it
pub length-packed_body : (ns : List ℕ) → length (packed_body ns) ≡ 1 + packed_len (length ns) (width (largest ns))
unfolding packed_body
length-packed_body ns = simp length-packed (omega arith)

-- words one after another
pub length-plain_body : (column : List ℤ) → length (plain_body column) ≡ 8 * length column
unfolding plain_body
length-plain_body [] = refl
length-plain_body (v ∷ vs) = let i = length-plain_body vs in simp (length-append, length-key_bytes) (omega arith)

-- signed varints one after another
pub length-varint_body : (column : List ℤ) → length (varint_body column) ≡ total (map varint_len column)
unfolding varint_body total
length-varint_body [] = refl
length-varint_body (v ∷ vs) = simp (length-append, length-varint_bytes, length-varint_body vs)

-- runs one after another
pub length-run_bytes : (rs : List Run) → length (run_bytes rs) ≡ total (map run_len rs)
unfolding run_bytes total run_len
length-run_bytes [] = refl
length-run_bytes (r ∷ rs) = simp (length-append, length-varint_bytes, length-uvarint_bytes, length-run_bytes rs)

-- a dictionary's gaps, and its entries
pub length-gap_bytes : (last : ℤ) (es : List ℤ) → length (gap_bytes last es) ≡ gaps_len last es
unfolding gap_bytes gaps_len
length-gap_bytes last [] = refl
length-gap_bytes last (e ∷ es) = simp (length-append, length-uvarint_bytes, length-gap_bytes e es)

-- the entries, the first of them signed
pub length-entry_bytes : (es : List ℤ) → length (entry_bytes es) ≡ entries_len es
unfolding entry_bytes entries_len
length-entry_bytes [] = refl
length-entry_bytes (e ∷ es) = simp (length-append, length-varint_bytes, length-gap_bytes)

-- a block of deltas
pub length-block_bytes : (ds : List ℤ) → length (block_bytes ds) ≡ varint_len (least ds) + (1 + packed_len (length ds) (width (largest (map (gap (least ds)) ds))))
unfolding block_bytes
length-block_bytes ds = simp (length-append, length-varint_bytes, length-packed_body, length-map)
