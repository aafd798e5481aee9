-- "All but Delta are exact lengths": an available estimate but Delta's is the length of the column's chunk. For each encoding the chunk's length, part by part
-- as it is written (Parts), is the sum that is estimated (Estimates).
use mathlib.Core.Path.{◌≡◌, refl, ◌∙◌}
use mathlib.Core.Logic.{◌≢◌}
use Prim.Native.Nat.{◌+◌, ◌≤◌}
use native.Mathlib.Omega.{arith}
use mathlib.Core.Bool.{true}
use mathlib.Core.List.{List}
use lib.IntN.{ℤ}
use lib.ListN.{length, length-append, length-map}
use Rattle.format.specs.Encodings.{max_dictionary_cardinality}
use Rattle.format.specs.Header.{header_len}
use Rattle.format.specs.Runs.{run_body}
use Rattle.format.specs.BitPacked.{bit_packed_body}
use Rattle.format.specs.Frame.{frame_body}
use Rattle.format.specs.Distinct.{distinct}
use Rattle.format.specs.Dictionary.{dictionary_body_with, dictionary_body}
use Rattle.format.specs.Chunk.{body_of, chunk_of}
use Rattle.format.specs.Estimates.{estimates_of, length_in, available_in}
use Rattle.format.specs.Keys.{Keys}
use Rattle.format.specs.declared.encoding.Encoding.{Encoding}
use Rattle.format.specs.declared.encoding.Encoding.TheVariants.{Plain, Varint, BitPacked, FrameOfReference, RunLength, Dictionary, DeltaBinaryPacked}
use Rattle.format.proofs.Lengths.Parts.{length-plain_body, length-varint_body, length-packed_body, length-run_bytes, length-entry_bytes}
use Rattle.format.proofs.Numbers.Packing.{length-packed}
use Rattle.format.proofs.Numbers.Uvarints.{length-uvarint_bytes}
use Rattle.format.proofs.Numbers.Keys.{length-key_bytes}
use Rattle.format.proofs.Codecs.Header.{length-header_bytes}
use Rattle.format.proofs.Numbers.Columns.{keys-all}
use Rattle.format.proofs.Numbers.Extremes.{largest-gaps}
use Rattle.format.proofs.Lengths.Estimates.{plain-estimate, varint-estimate, bit_packed-estimate, frame-estimate, run_length-estimate, dictionary-estimate, dictionary-few}

-- a chunk is its header and its body
pub length-chunk : (e : Encoding) (column : List ℤ) → length (chunk_of e column) ≡ header_len (length column) + length (body_of e column)
unfolding chunk_of
length-chunk e column = simp (length-append, length-header_bytes)

-- Plain: 8 bytes a value
pub plain-exact : (column : List ℤ) → length (chunk_of Plain column) ≡ length_in (estimates_of column) Plain
unfolding body_of
plain-exact column = length-chunk Plain column ∙ rw (plain-estimate, length-plain_body)

-- Varint: the sum of the signed varints
pub varint-exact : (column : List ℤ) → length (chunk_of Varint column) ≡ length_in (estimates_of column) Varint
unfolding body_of
varint-exact column = length-chunk Varint column ∙ rw (varint-estimate, length-varint_body)

-- BitPacked: a width byte, and all ZigZags at the width of the largest
pub bit_packed-exact : (column : List ℤ) → length (chunk_of BitPacked column) ≡ length_in (estimates_of column) BitPacked
unfolding body_of bit_packed_body
bit_packed-exact column = length-chunk BitPacked column ∙ rw bit_packed-estimate (simp (length-packed_body, length-map) (omega arith))

-- FrameOfReference: of keys, since only there the largest difference from the least is the span
pub frame-exact : (column : List ℤ) → Keys column → length (chunk_of FrameOfReference column) ≡ length_in (estimates_of column) FrameOfReference
unfolding body_of frame_body
frame-exact column keys =
    length-chunk FrameOfReference column
    ∙ rw frame-estimate (simp (length-append, length-key_bytes, length-packed_body, length-map, largest-gaps column (keys-all column keys)) (omega arith))

-- RunLength: the run total, and the sum over the runs
pub run_length-exact : (column : List ℤ) → length (chunk_of RunLength column) ≡ length_in (estimates_of column) RunLength
unfolding body_of run_body
run_length-exact column =
    length-chunk RunLength column ∙ rw run_length-estimate (simp (length-append, length-uvarint_bytes, length-run_bytes) (omega arith))

-- Dictionary, where there are at most 16,384 distinct values
pub dictionary-exact :
    (column : List ℤ) → length (distinct column) ≤ max_dictionary_cardinality → length (chunk_of Dictionary column) ≡ length_in (estimates_of column) Dictionary
unfolding body_of dictionary_body dictionary_body_with
dictionary-exact column few =
    length-chunk Dictionary column
    ∙ rw (dictionary-estimate column few) (simp (length-append, length-uvarint_bytes, length-entry_bytes, length-packed, length-map) (omega arith))

-- over the encodings: where an estimate but Delta's is available, it is the length of the chunk
pub chunk-exact :
    (column : List ℤ) → Keys column → (e : Encoding) → e ≢ DeltaBinaryPacked → available_in (estimates_of column) e ≡ true
    → length (chunk_of e column) ≡ length_in (estimates_of column) e
chunk-exact column keys Plain other there = plain-exact column
chunk-exact column keys Varint other there = varint-exact column
chunk-exact column keys BitPacked other there = bit_packed-exact column
chunk-exact column keys FrameOfReference other there = frame-exact column keys
chunk-exact column keys RunLength other there = run_length-exact column
chunk-exact column keys Dictionary other there = dictionary-exact column (dictionary-few column there)
chunk-exact column keys DeltaBinaryPacked other there = absurd (other refl)
