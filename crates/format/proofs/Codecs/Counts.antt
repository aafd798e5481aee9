-- Reading any chunk, written by these rules or not: where the questions up to the body's end are answered with yes, the values found are as many as the header
-- counts. Words, varints and packed numbers are read by the count; the lengths of runs sum to the count by questions 15 and 16; and the delta blocks, whose
-- size is at least 1 by question 19, hold one delta for each value after the first.
use mathlib.Core.Path.{◌≡◌, refl, sym, ap}
use mathlib.Core.List.{List, [], ◌∷◌}
use Prim.Native.Nat.{ℕ, zero, suc, ◌+◌, ◌-◌, ◌*◌, ◌^◌, ◌≤◌, min}
use native.Mathlib.Nat.{suc-mul, zero-mul, div-add-mod', mod-lt}
use native.Mathlib.Omega.{arith}
use borrow.Author.Tests.{leb-true, eqb-true}
use lib.IntN.{ℤ}
use lib.Dec.{leb, eqb}
use lib.ListN.{length, drop, length-append, length-map, length-replicate}
use Rattle.format.specs.Outcome.{ok, check}
use Rattle.format.specs.Digits.{of_digits}
use Rattle.format.specs.Keys.{wrapping_add}
use Rattle.format.specs.declared.Extent.{Extent}
use Rattle.format.specs.Varint.{Uvarint, read_uvarint, uvarint_at, uvarint_values}
use Rattle.format.specs.Packing.{unpacked, packed_values}
use Rattle.format.specs.Plain.{plain_values}
use Rattle.format.specs.VarintBody.{varint_body_values}
use Rattle.format.specs.BitPacked.{bit_packed_values}
use Rattle.format.specs.Frame.{frame_values}
use Rattle.format.specs.Runs.{validate_runs, validate_run_length, run_values, run_length_values}
use Rattle.format.specs.Dictionary.{dictionary_values}
use Rattle.format.specs.Delta.{block_count, validate_delta, block_deltas, prefix_sums, delta_values}
use Rattle.format.specs.Encodings.{encoding_of, within}
use Rattle.format.specs.Header.{Naming, read_header}
use Rattle.format.specs.Chunk.{validate_body, body_values}
use Rattle.format.specs.Read.{Validated, validate, values_of}
use Rattle.format.specs.declared.encoding.Encoding.{Encoding}
use Rattle.format.specs.declared.encoding.Encoding.TheVariants.{Plain, Varint, BitPacked, FrameOfReference, RunLength, Dictionary, DeltaBinaryPacked}
use Rattle.format.proofs.Numbers.Digits.{length_digits}
use Rattle.format.proofs.Codecs.Outcome.{both-passed, check-passed}
use Rattle.std.specs.Prelude.{Option}
use Rattle.std.proofs.lemmas.Bool.{and_parts}

-- ---- numbers read in a row

-- unpacking gives as many values as it is asked for,
pub length-unpacked : (w count : ℕ) (body : List ℕ) → length (unpacked w count body) ≡ count
unfolding unpacked
length-unpacked w count body = length_digits (2 ^ w) count (of_digits 256 body)

-- also in the middle of a chunk;
pub length-packed_values : (s : List ℕ) (at w count : ℕ) → length (packed_values s at w count) ≡ count
unfolding packed_values
length-packed_values s at w count = length-unpacked w count (drop at s)

-- so do varints in a row
pub length-uvarint_values : (s : List ℕ) (at n : ℕ) → length (uvarint_values s at n) ≡ n
unfolding uvarint_values
length-uvarint_values s at zero = refl
length-uvarint_values s at (suc n) = ap suc (length-uvarint_values s (uvarint_at s at).next n)

-- and words of eight bytes
pub length-plain_values : (s : List ℕ) (at n : ℕ) → length (plain_values s at n) ≡ n
unfolding plain_values
length-plain_values s at zero = refl
length-plain_values s at (suc n) = ap suc (length-plain_values s (at + 8) n)

-- ---- RunLength

-- a varint that was read is found again
pub uvarint-again : (s : List ℕ) (at : ℕ) {v : Uvarint} → read_uvarint s at ≡ ok v → uvarint_at s at ≡ v
unfolding uvarint_at
uvarint-again s at h = rw h

-- n runs that were read give as many values as were left: each takes its length off, which is at most what is left by question 15, and by question 16 none is
-- left at the end
pub length-run_values : (s : List ℕ) (at n left : ℕ) (padded : Option ℕ) {e : Extent} → validate_runs s at n left padded ≡ ok e → length (run_values s at n) ≡ left
unfolding validate_runs run_values
length-run_values s at zero left padded h = both-passed (check (eqb left 0) 16 0) _ h λ _ none h₁. sym (eqb-true left 0 (check-passed (eqb left 0) 16 0 none))
length-run_values s at (suc n) left padded h =
    both-passed (read_uvarint s at) _ h λ key k h₁.
    both-passed (read_uvarint s key.next) _ h₁ λ times t h₂.
    both-passed (check (leb times.value left) 15 times.next) _ h₂ λ _ most h₃.
    let rest : length (run_values s times.next n) ≡ left - times.value = length-run_values s times.next n _ _ h₃ in
    rw (uvarint-again s at k, uvarint-again s key.next t, length-append, length-replicate)
    (omega (arith, leb-true times.value left (check-passed _ 15 _ most)))

-- a RunLength body that was read gives as many values as are counted
pub run_length-count :
    (s : List ℕ) (start count : ℕ) (padded : Option ℕ) {e : Extent} → validate_run_length s start count padded ≡ ok e
    → length (run_length_values s start) ≡ count
unfolding validate_run_length run_length_values
run_length-count s start count padded h =
    both-passed (read_uvarint s start) _ h λ n r h₁.
    both-passed (check (leb n.value count) 14 n.next) _ h₁ λ _ _ h₂.
    rw (uvarint-again s start r) (length-run_values s n.next n.value count _ h₂)

-- ---- DeltaBinaryPacked

-- there are as many sums as deltas
pub length-prefix_sums : (last : ℤ) (ds : List ℤ) → length (prefix_sums last ds) ≡ length ds
unfolding prefix_sums
length-prefix_sums last [] = refl
length-prefix_sums last (d ∷ ds) = ap suc (length-prefix_sums (wrapping_add last d) ds)

-- blocks that have room for the deltas that are left give all of them
pub length-block_deltas : (s : List ℕ) (size at k left : ℕ) → left ≤ k * size → length (block_deltas s size at k left) ≡ left
unfolding block_deltas
length-block_deltas s size at zero left h = omega (arith, zero-mul size)
length-block_deltas s size at (suc k) left h =
    let fit : left - min left size ≤ k * size = omega (arith, suc-mul k size) in
    let rest : (next : ℕ) → length (block_deltas s size next k (left - min left size)) ≡ left - min left size = λ next. length-block_deltas s size next k _ fit in
    simp (length-append, length-map, length-packed_values, rest) (omega arith)

-- as many blocks as are read have room for them
pub block_count-enough : (size n : ℕ) → 1 ≤ size → n ≤ block_count size n * size
unfolding block_count
block_count-enough size n h = omega (arith, div-add-mod' (n + (size - 1)) size, mod-lt (n + (size - 1)) h)

-- a DeltaBinaryPacked body that was read gives as many values as are counted
pub delta-count :
    (s : List ℕ) (start count : ℕ) (padded : Option ℕ) {e : Extent} → validate_delta s start count padded ≡ ok e
    → length (delta_values s start count) ≡ count
unfolding validate_delta delta_values
delta-count s start zero padded h = refl
delta-count s start (suc left) padded h =
    both-passed (read_uvarint s start) _ h λ first f h₁.
    both-passed (read_uvarint s first.next) _ h₁ λ size z h₂.
    both-passed (check (within 1 (2 ^ 20) size.value) 19 size.next) _ h₂ λ _ one h₃.
    let some : 1 ≤ size.value = leb-true 1 size.value (and_parts (leb 1 size.value) _ (check-passed _ 19 _ one)).0 in
    rw (uvarint-again s start f, uvarint-again s first.next z, length-prefix_sums)
    (ap suc (length-block_deltas s size.value size.next _ left (block_count-enough size.value left some)))

-- ---- every encoding

-- a body that was read gives as many values as are counted
pub body-count :
    (encoding : Encoding) (s : List ℕ) (start count : ℕ) (padded : Option ℕ) {e : Extent} → validate_body encoding s start count padded ≡ ok e
    → length (body_values encoding s start count) ≡ count
unfolding validate_body body_values varint_body_values bit_packed_values frame_values dictionary_values
body-count Plain s start count padded h = length-plain_values s start count
body-count Varint s start count padded h = simp (length-map, length-uvarint_values)
body-count BitPacked s start count padded h = simp (length-map, length-packed_values)
body-count FrameOfReference s start count padded h = simp (length-map, length-packed_values)
body-count RunLength s start count padded h = run_length-count s start count padded h
body-count Dictionary s start count padded h = simp (length-map, length-packed_values)
body-count DeltaBinaryPacked s start count padded h = delta-count s start count padded h

-- ANY CHUNK of which every question up to the body's end is passed has as many values as its header counts
pub values-count : (naming : Naming) (s : List ℕ) (c : Validated) → validate naming s ≡ ok c → length (values_of s c) ≡ c.header.count
unfolding validate values_of
values-count naming s c h =
    both-passed (read_header naming s) _ h λ header r h₁.
    both-passed (validate_body (encoding_of header.id) s header.start header.count header.padded) _ h₁ λ body b h₂.
    let same : header ≡ c.header = cc in
    rw (← same) (body-count (encoding_of header.id) s header.start header.count header.padded b)
