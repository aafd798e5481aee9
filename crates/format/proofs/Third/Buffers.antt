-- No call changes the length of a buffer that is lent to it, whatever its arguments, since what is stored at the front fits: question 20 compares its length
-- with the buffer's, and question 22 asks for a scratch with room for the distinct values. Reading compares the header's count instead of the length of what it
-- stores, and answers with it; both are the same by Counts.
use mathlib.Core.Path.{◌≡◌, refl, sym, ap}
use mathlib.Core.Bool.{Bool, true, false, not, cond}
use mathlib.Core.List.{List, []}
use Prim.Native.Nat.{ℕ, ◌≤◌}
use native.Mathlib.Nat.{le_trans}
use native.Mathlib.Omega.{arith}
use borrow.Author.Tests.{leb-true}
use lib.IntN.{ℤ}
use lib.Dec.{leb}
use lib.ListN.{length, take}
use Rattle.format.specs.Outcome.{Outcome, refused, ok, check, ◌>>=◌}
use Rattle.format.specs.Keys.{zigzag}
use Rattle.format.specs.Varint.{uvarint_len, uvarint_bytes}
use Rattle.format.specs.Packing.{packed_len, packed, unpacked, packed_end}
use Rattle.format.specs.Encodings.{encoding_of, within, max_chunk_elements}
use Rattle.format.specs.Answers.{stored_answer, buffer_after, stored}
use Rattle.format.specs.Header.{Naming}
use Rattle.format.specs.Distinct.{too_many_distinct, capped_distinct, scratch_needed, scratch_check, collected, distinct}
use Rattle.format.specs.Chunk.{chunk_of}
use Rattle.format.specs.Read.{Validated, validate, strict_checks, read_outcome, values_of, read_answer, read_column}
use Rattle.format.specs.Write.{for_dictionary, write_checks, write_outcome, write_output, scratch_after_checks, write_scratch}
use Rattle.format.specs.Standalone.{pack_outcome, pack_output, unpack_outcome, unpack_buffer, uvarint_write_outcome, uvarint_write_output, varint_write_output}
use Rattle.format.specs.Statistics.{analysis_checks, scratch_after, analysis_scratch, distinct_values_part, distinct_values, distinct_after_checks}
use Rattle.format.specs.Plan.{plan_checks, plan_scratch}
use Rattle.format.specs.declared.encoding.Encoding.{Encoding}
use Rattle.format.specs.declared.encoding.Encoding.TheVariants.{Plain, Varint, BitPacked, FrameOfReference, RunLength, Dictionary, DeltaBinaryPacked}
use Rattle.format.proofs.Numbers.Packing.{length-packed}
use Rattle.format.proofs.Numbers.Uvarints.{length-uvarint_bytes}
use Rattle.format.proofs.Numbers.Distinct.{capped_distinct-most, capped_distinct-all, few-distinct}
use Rattle.format.proofs.Codecs.Outcome.{both-passed, check-passed}
use Rattle.format.proofs.Codecs.Counts.{length-unpacked, values-count}
use Rattle.format.proofs.Plan.Checks.{length-stored, take-stored}

-- ---- buffers that are filled from the front

-- a buffer in which what is found has room keeps its length
length-after {ℓ} : {A : Type ℓ} (o : Outcome (List A)) (buffer : List A) → ((front : List A) → o ≡ ok front → length front ≤ length buffer)
    → length (buffer_after o buffer) ≡ length buffer
length-after (refused number offset) buffer fits = refl
length-after (ok front) buffer fits = length-stored front buffer (fits front refl)

-- where question 20 is the last and compares the length of what is found, that has room
room-passed {ℓ} : {A : Type ℓ} (found : List A) (needed room : ℕ) {front : List A} → length found ≡ needed
    → (check (leb needed room) 20 needed >>= λ _. ok found) ≡ ok front → length front ≤ room
room-passed found needed room {front} e h =
    both-passed (check (leb needed room) 20 needed) _ h λ _ fits h₁.
    let same : length found ≡ length front = cc in
    omega (arith, leb-true needed room (check-passed _ 20 _ fits))

-- ---- reading

-- where reading is accepted, the questions up to the body's end were passed, and there is room for the header's count
read-passed : (strict : Bool) (naming : Naming) (s : List ℕ) (room : ℕ) {c : Validated}
    → read_outcome strict naming s room ≡ ok c → (validate naming s ≡ ok c) × (c.header.count ≤ room)
unfolding read_outcome
read-passed strict naming s room {c} h =
    both-passed (validate naming s) _ h λ d v h₁.
    both-passed (strict_checks strict s d.body) _ h₁ λ _ _ h₂.
    both-passed (check (leb d.header.count room) 20 d.header.count) _ h₂ λ _ fits h₃.
    let same : d ≡ c = cc in
    rw (← same) (v, leb-true d.header.count room (check-passed _ 20 _ fits))

module _ (strict : Bool) (naming : Naming) (s : List ℕ) where
  -- THE ANSWER of reading is the count of the values stored
  pub read_count : (room : ℕ) → read_answer strict naming s room ≡ stored_answer (read_outcome strict naming s room >>= λ c. ok (values_of s c))
  unfolding read_answer
  read_count room = go (read_outcome strict naming s room) refl
    where
      go : (o : Outcome Validated) → read_outcome strict naming s room ≡ o
          → (o >>= λ c. ok c.header.count) ≡ stored_answer (o >>= λ c. ok (values_of s c))
      go (refused number offset) h = refl
      go (ok c) h = ap ok (sym (values-count naming s c (read-passed strict naming s room h).0))

  -- the column buffer keeps its length
  pub length-read_column : (column : List ℤ) → length (read_column strict naming s column) ≡ length column
  unfolding read_column
  length-read_column column =
      length-after (read_outcome strict naming s (length column) >>= λ c. ok (values_of s c)) column λ front h.
      both-passed (read_outcome strict naming s (length column)) _ h λ c r h₁.
      let same : length (values_of s c) ≡ length front = cc in
      let (v, fits) = read-passed strict naming s (length column) r in
      omega (arith, values-count naming s c v)

-- ---- writing

-- the output keeps its length
pub length-write_output : (number : ℕ) (column : List ℤ) (room : ℕ) (output : List ℕ) → length (write_output number column room output) ≡ length output
unfolding write_output write_outcome
length-write_output number column room output =
    length-after (write_outcome number column room (length output)) output λ front h.
    both-passed (write_checks number column room) _ h λ encoding _ h₁.
    both-passed (for_dictionary (ok tt) (check (not (too_many_distinct column)) 23 0) encoding) _ h₁ λ _ _ h₂.
    room-passed (chunk_of encoding column) (length (chunk_of encoding column)) (length output) refl h₂

-- ---- packing, unpacking and varints alone

-- the output of packing keeps its length
pub length-pack_output : (values : List ℕ) (w : ℕ) (output : List ℕ) → length (pack_output values w output) ≡ length output
unfolding pack_output pack_outcome
length-pack_output values w output =
    length-after (pack_outcome values w (length output)) output λ front h.
    both-passed (check (leb (length values) max_chunk_elements) 21 0) _ h λ _ _ h₁.
    both-passed (check (leb w 64) 12 0) _ h₁ λ _ _ h₂.
    room-passed (packed w values) (packed_len (length values) w) (length output) (length-packed w values) h₂

-- the buffer of unpacking keeps its length
pub length-unpack_buffer : (s : List ℕ) (w count : ℕ) (buffer : List ℕ) → length (unpack_buffer s w count buffer) ≡ length buffer
unfolding unpack_buffer unpack_outcome
length-unpack_buffer s w count buffer =
    length-after (unpack_outcome s w count (length buffer)) buffer λ front h.
    both-passed (check (leb count max_chunk_elements) 21 0) _ h λ _ _ h₁.
    both-passed (packed_end s 0 w count) _ h₁ λ _ _ h₂.
    room-passed (unpacked w count s) count (length buffer) (length-unpacked w count s) h₂

-- the output of a varint keeps its length,
pub length-uvarint_write_output : (x : ℕ) (output : List ℕ) → length (uvarint_write_output x output) ≡ length output
unfolding uvarint_write_output uvarint_write_outcome
length-uvarint_write_output x output =
    length-after (uvarint_write_outcome x (length output)) output λ front h. room-passed (uvarint_bytes x) (uvarint_len x) (length output) (length-uvarint_bytes x) h

-- and so does that of a signed one
pub length-varint_write_output : (v : ℤ) (output : List ℕ) → length (varint_write_output v output) ≡ length output
unfolding varint_write_output
length-varint_write_output v output = length-uvarint_write_output (zigzag v) output

-- ---- the scratch

module _ (column scratch : List ℤ) where
  -- where question 22 is passed, the scratch has room for the distinct values
  length-collected : {u : Unit {0}} → scratch_check column (length scratch) ≡ ok u → length (collected column scratch) ≡ length scratch
  unfolding scratch_check collected
  length-collected h =
      let lent : scratch_needed column ≤ length scratch = leb-true (scratch_needed column) (length scratch) (check-passed _ 22 0 h) in
      length-stored (capped_distinct column) scratch (le_trans (capped_distinct-most column) lent)

  -- so the scratch keeps its length after a list of questions that ends with 22,
  length-scratch_after : (o : Outcome (Unit {0})) → ((u : Unit {0}) → o ≡ ok u → scratch_check column (length scratch) ≡ ok u)
      → length (scratch_after o column scratch) ≡ length scratch
  length-scratch_after (refused number offset) last = refl
  length-scratch_after (ok u) last = length-collected (last u refl)

  -- which that of statistics, distinct values and estimates does:
  analysis-passed : (u : Unit {0}) → analysis_checks column (length scratch) ≡ ok u → scratch_check column (length scratch) ≡ ok u
  unfolding analysis_checks
  analysis-passed u h = both-passed (check (leb (length column) max_chunk_elements) 21 0) _ h λ _ _ h₁. h₁

  -- statistics, distinct values and estimates: the scratch keeps its length
  pub length-analysis_scratch : length (analysis_scratch column scratch) ≡ length scratch
  unfolding analysis_scratch
  length-analysis_scratch = length-scratch_after (analysis_checks column (length scratch)) analysis-passed

  -- planning asks one question more, before these: the scratch keeps its length
  pub length-plan_scratch : (level : ℕ) → length (plan_scratch level column scratch) ≡ length scratch
  unfolding plan_scratch plan_checks
  length-plan_scratch level =
      length-scratch_after (plan_checks level column (length scratch)) λ u h. both-passed (check (leb level 9) 24 0) _ h λ _ _ h₁. analysis-passed u h₁

  -- for Dictionary 22 was passed, and for every other encoding the scratch is left as it was
  length-for_dictionary : (e : Encoding) {u : Unit {0}} → for_dictionary (ok tt) (scratch_check column (length scratch)) e ≡ ok u
      → length (for_dictionary scratch (collected column scratch) e) ≡ length scratch
  length-for_dictionary Plain h = refl
  length-for_dictionary Varint h = refl
  length-for_dictionary BitPacked h = refl
  length-for_dictionary FrameOfReference h = refl
  length-for_dictionary RunLength h = refl
  length-for_dictionary Dictionary h = length-collected h
  length-for_dictionary DeltaBinaryPacked h = refl

  -- writing: the scratch keeps its length
  pub length-write_scratch : (number : ℕ) → length (write_scratch number column scratch) ≡ length scratch
  unfolding write_scratch write_checks
  length-write_scratch number = go (write_checks number column (length scratch)) refl
    where
      go : (o : Outcome Encoding) → write_checks number column (length scratch) ≡ o → length (scratch_after_checks o column scratch) ≡ length scratch
      go (refused n offset) h = refl
      go (ok e) h =
          both-passed (check (within 1 7 number) 2 0) _ h λ _ _ h₁.
          both-passed (check (leb (length column) max_chunk_elements) 21 0) _ h₁ λ _ _ h₂.
          both-passed (for_dictionary (ok tt) (scratch_check column (length scratch)) (encoding_of number)) _ h₂ λ _ lent h₃.
          let same : encoding_of number ≡ e = cc in
          rw (← same) (length-for_dictionary (encoding_of number) lent)

-- ---- the distinct values handed back

-- "The distinct values are handed back as a part of the scratch": they are its front after the call
part-front : (o : Outcome (Unit {0})) (column scratch : List ℤ)
    → take (length (distinct_after_checks o column)) (scratch_after o column scratch) ≡ distinct_after_checks o column
unfolding distinct_values collected
part-front (refused number offset) column scratch = refl
part-front (ok done) column scratch = go (too_many_distinct column) refl
  where
    go : (t : Bool) → too_many_distinct column ≡ t
        → take (length (cond t [] (distinct column))) (stored (capped_distinct column) scratch) ≡ cond t [] (distinct column)
    go true e = refl
    go false e = rw (capped_distinct-all column (few-distinct column e)) (take-stored (distinct column) scratch)

pub distinct_values-part :
    (column scratch : List ℤ)
    → take (length (distinct_values_part column (length scratch))) (analysis_scratch column scratch) ≡ distinct_values_part column (length scratch)
unfolding distinct_values_part analysis_scratch
distinct_values-part column scratch = part-front (analysis_checks column (length scratch)) column scratch
