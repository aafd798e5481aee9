-- How long a chunk is, over the encodings: at most the estimated bytes where the encoding is available, and at most 20 bytes a value and 16 more. The first is
-- by Exact, and for Delta by DeltaBound; the second by the limits of the estimates (Limits).
use mathlib.Core.Path.{◌≡◌, refl}
use Prim.Native.Nat.{◌+◌, ◌*◌, ◌≤◌}
use native.Mathlib.Nat.{le_trans, le_of_eq}
use native.Mathlib.Omega.{arith}
use mathlib.Core.Bool.{true}
use mathlib.Core.List.{List, [], ◌∷◌}
use lib.IntN.{ℤ}
use lib.ListN.{length}
use Rattle.format.specs.Encodings.{max_chunk_elements, max_dictionary_cardinality}
use Rattle.format.specs.Distinct.{distinct}
use Rattle.format.specs.Delta.{block_count}
use Rattle.format.specs.Chunk.{chunk_of}
use Rattle.format.specs.Estimates.{estimates_of, length_in, available_in}
use Rattle.format.specs.Keys.{Keys}
use Rattle.format.specs.declared.encoding.Encoding.{Encoding}
use Rattle.format.specs.declared.encoding.Encoding.TheVariants.{Plain, Varint, BitPacked, FrameOfReference, RunLength, Dictionary, DeltaBinaryPacked}
use Rattle.format.proofs.Lengths.Estimates.{dictionary-few, delta-two}
use Rattle.format.proofs.Lengths.Exact.{plain-exact, varint-exact, bit_packed-exact, frame-exact, run_length-exact, dictionary-exact}
use Rattle.format.proofs.Lengths.DeltaBound.{delta-most}
use Rattle.format.proofs.Lengths.Limits.{estimate-most, header_len-most}
use Rattle.format.proofs.Numbers.Keys.{varint_len-le}
use Rattle.format.proofs.Lengths.DeltaLength.{blocks_len, delta-length, delta-length-none}

-- the chunk in an available encoding has at most the estimated bytes
pub chunk-at-most :
    (column : List ℤ) → Keys column → (e : Encoding) → available_in (estimates_of column) e ≡ true → length (chunk_of e column) ≤ length_in (estimates_of column) e
chunk-at-most column keys Plain there = le_of_eq (plain-exact column)
chunk-at-most column keys Varint there = le_of_eq (varint-exact column)
chunk-at-most column keys BitPacked there = le_of_eq (bit_packed-exact column)
chunk-at-most column keys FrameOfReference there = le_of_eq (frame-exact column keys)
chunk-at-most column keys RunLength there = le_of_eq (run_length-exact column)
chunk-at-most column keys Dictionary there = le_of_eq (dictionary-exact column (dictionary-few column there))
chunk-at-most column keys DeltaBinaryPacked there = delta-most column (delta-two column there)

-- Delta's chunk, of fewer than two values too, where there is no estimate
delta-chunk-most : (column : List ℤ) → length column ≤ max_chunk_elements → length (chunk_of DeltaBinaryPacked column) ≤ 16 + 20 * length column
unfolding block_count blocks_len
delta-chunk-most [] size = rw delta-length-none (omega (arith, header_len-most 0 size))
delta-chunk-most (v ∷ []) size = rw delta-length (omega (arith, header_len-most 1 size, varint_len-le v))
delta-chunk-most (v ∷ w ∷ vs) size = le_trans (delta-most (v ∷ w ∷ vs) (omega arith)) (estimate-most (v ∷ w ∷ vs) size DeltaBinaryPacked)

-- a chunk that writing does not refuse has at most 20 bytes a value and 16 more
pub chunk-most :
    (column : List ℤ) → Keys column → length column ≤ max_chunk_elements → (e : Encoding) → (e ≡ Dictionary → length (distinct column) ≤ max_dictionary_cardinality)
    → length (chunk_of e column) ≤ 16 + 20 * length column
chunk-most column keys size Plain few = rw plain-exact (estimate-most column size Plain)
chunk-most column keys size Varint few = rw varint-exact (estimate-most column size Varint)
chunk-most column keys size BitPacked few = rw bit_packed-exact (estimate-most column size BitPacked)
chunk-most column keys size FrameOfReference few = rw (frame-exact column keys) (estimate-most column size FrameOfReference)
chunk-most column keys size RunLength few = rw run_length-exact (estimate-most column size RunLength)
chunk-most column keys size Dictionary few = rw (dictionary-exact column (few refl)) (estimate-most column size Dictionary)
chunk-most column keys size DeltaBinaryPacked few = delta-chunk-most column size
