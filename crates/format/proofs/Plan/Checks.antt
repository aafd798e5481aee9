-- Planning and writing are accepted where every question has a yes: with a level of at most 9, at most 2^24 values, the scratch that 01 names, and an output
-- as long as the chunk. Each question's test holds by its hypothesis; Dictionary's last one, at most 16,384 distinct values, by the encoding being available.
use mathlib.Core.Path.{◌≡◌, refl, ap, subst}
use Prim.Native.Nat.{ℕ, ◌≤◌}
use native.Mathlib.Omega.{arith}
use mathlib.Core.Bool.{Bool, true, false, not}
use mathlib.Core.List.{List}
use borrow.Author.Tests.{le-leb}
use lib.IntN.{ℤ}
use lib.ListN.{length, take, drop, length-append, length-drop}
use lib.Seq.{take-append_seam}
use Rattle.format.specs.Outcome.{Outcome, ok, check}
use Rattle.format.specs.Encodings.{id_of, max_chunk_elements}
use Rattle.format.specs.Answers.{stored, stored_answer, buffer_after}
use Rattle.format.specs.Distinct.{too_many_distinct, capped_distinct, scratch_check, scratch_needed}
use Rattle.format.specs.Chunk.{chunk_of}
use Rattle.format.specs.Statistics.{analysis_checks}
use Rattle.format.specs.Estimates.{estimates_of, available_in}
use Rattle.format.specs.Write.{for_dictionary, write_checks, write_outcome, write_answer, write_output}
use Rattle.format.specs.Plan.{plan_of, plan_checks, plan_answer}
use Rattle.format.specs.ThirdDemand.{chunk_stored, WritingScratch}
use Rattle.format.specs.declared.encoding.Encoding.{Encoding}
use Rattle.format.specs.declared.encoding.Encoding.TheVariants.{Plain, Varint, BitPacked, FrameOfReference, RunLength, Dictionary, DeltaBinaryPacked}
use Rattle.format.proofs.Numbers.Distinct.{not-too_many_distinct}
use Rattle.format.proofs.Codecs.Encodings.{encoding_of-id, id-within}
use Rattle.format.proofs.Lengths.Estimates.{dictionary-few}

-- ---- a buffer after storing

-- its front is what was stored
pub take-stored {ℓ} : {A : Type ℓ} (front buffer : List A) → take (length front) (stored front buffer) ≡ front
unfolding stored
take-stored front buffer = take-append_seam front (drop (length front) buffer)

-- a buffer that is long enough keeps its length
pub length-stored {ℓ} : {A : Type ℓ} (front buffer : List A) → length front ≤ length buffer → length (stored front buffer) ≡ length buffer
unfolding stored
length-stored front buffer h = simp (length-append, length-drop) (omega arith)

-- ---- planning

-- "scratch of min(count, 16,384)? 22": yes, with so many places
scratch_check-ok : (column : List ℤ) (room : ℕ) → scratch_needed column ≤ room → scratch_check column room ≡ ok tt
unfolding scratch_check
scratch_check-ok column room enough = rw (le-leb (scratch_needed column) room enough)

-- "Statistics or estimates alone: 21, 22": all yes, with at most 2^24 values too
pub analysis_checks-ok : (column : List ℤ) (room : ℕ) → length column ≤ max_chunk_elements → scratch_needed column ≤ room → analysis_checks column room ≡ ok tt
unfolding analysis_checks
analysis_checks-ok column room size enough = rw (le-leb (length column) max_chunk_elements size) (scratch_check-ok column room enough)

module _ (level : ℕ) (column : List ℤ) (room : ℕ)
    (level-most : level ≤ 9) (size : length column ≤ max_chunk_elements) (enough : scratch_needed column ≤ room) where
  -- "Planning: level at most 9? 24; then 21, 22": all yes
  plan_checks-ok : plan_checks level column room ≡ ok tt
  unfolding plan_checks
  plan_checks-ok = rw (le-leb level 9 level-most) (analysis_checks-ok column room size enough)

  -- so planning is accepted, with the column's plan
  pub plan_answer-accepted : plan_answer level column room ≡ record { answer = ok (length (capped_distinct column)); plan = plan_of level column }
  unfolding plan_answer
  plan_answer-accepted = rw plan_checks-ok

-- ---- writing

-- what is asked for Dictionary alone is passed, if it is for Dictionary
for_dictionary-ok : (asked : Outcome (Unit {0})) (e : Encoding) → (e ≡ Dictionary → asked ≡ ok tt) → for_dictionary (ok tt) asked e ≡ ok tt
for_dictionary-ok asked Plain h = refl
for_dictionary-ok asked Varint h = refl
for_dictionary-ok asked BitPacked h = refl
for_dictionary-ok asked FrameOfReference h = refl
for_dictionary-ok asked RunLength h = refl
for_dictionary-ok asked Dictionary h = h refl
for_dictionary-ok asked DeltaBinaryPacked h = refl

module _ (e : Encoding) (column : List ℤ) (room : ℕ) (size : length column ≤ max_chunk_elements) (enough : WritingScratch column e room) where
  -- "encoding 1 to 7? 2, at 0. At most 2^24 values? 21. For Dictionary: scratch of min(count, 16,384)? 22": all yes
  write_checks-ok : write_checks (id_of e) column room ≡ ok e
  unfolding write_checks
  write_checks-ok =
      rw (
        id-within e,
        le-leb (length column) max_chunk_elements size,
        encoding_of-id e,
        for_dictionary-ok (scratch_check column room) e (λ p. scratch_check-ok column room (enough p)),
      )

  -- "at most 16,384 distinct? 23. Output long enough? 20": yes, so the chunk is found
  write_outcome-ok :
      (space : ℕ) → (e ≡ Dictionary → too_many_distinct column ≡ false) → length (chunk_of e column) ≤ space
      → write_outcome (id_of e) column room space ≡ ok (chunk_of e column)
  unfolding write_outcome
  write_outcome-ok space few fits =
      let asked : Outcome (Unit {0}) = check (not (too_many_distinct column)) 23 0 in
      let passed : for_dictionary (ok tt) asked e ≡ ok tt = for_dictionary-ok asked e (λ p. ap (λ (t : Bool). check (not t) 23 0) (few p)) in
      rw (write_checks-ok, passed, le-leb (length (chunk_of e column)) space fits)

-- where Dictionary is available there are at most 16,384 distinct values
available-few : (column : List ℤ) (e : Encoding) → available_in (estimates_of column) e ≡ true → e ≡ Dictionary → too_many_distinct column ≡ false
available-few column e there p =
    not-too_many_distinct column (dictionary-few column (subst (λ (x : Encoding). available_in (estimates_of column) x ≡ true) p there))

-- an available encoding is written, where enough is lent: the answer is accepted,
pub write_answer-accepted :
    (e : Encoding) (column : List ℤ) (room space : ℕ) → length column ≤ max_chunk_elements → available_in (estimates_of column) e ≡ true
    → WritingScratch column e room → length (chunk_of e column) ≤ space → write_answer (id_of e) column room space ≡ ok (length (chunk_of e column))
unfolding write_answer
write_answer-accepted e column room space size there enough fits =
    ap stored_answer (write_outcome-ok e column room size enough space (available-few column e there) fits)

-- the chunk is stored in the output,
pub write_output-stored :
    (e : Encoding) (column : List ℤ) (room : ℕ) (output : List ℕ) → length column ≤ max_chunk_elements → available_in (estimates_of column) e ≡ true
    → WritingScratch column e room → length (chunk_of e column) ≤ length output → write_output (id_of e) column room output ≡ stored (chunk_of e column) output
unfolding write_output
write_output-stored e column room output size there enough fits =
    ap (λ o. buffer_after o output) (write_outcome-ok e column room size enough (length output) (available-few column e there) fits)

-- and "the bytes that writing stored" are the chunk
pub chunk_stored-chunk :
    (e : Encoding) (column scratch : List ℤ) (output : List ℕ) → length column ≤ max_chunk_elements → available_in (estimates_of column) e ≡ true
    → WritingScratch column e (length scratch) → length (chunk_of e column) ≤ length output → chunk_stored e column scratch output ≡ chunk_of e column
chunk_stored-chunk e column scratch output size there enough fits =
    rw (
      write_answer-accepted e column (length scratch) (length output) size there enough fits,
      write_output-stored e column (length scratch) output size there enough fits,
    )
    (take-stored (chunk_of e column) output)
