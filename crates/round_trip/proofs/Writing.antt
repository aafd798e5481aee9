-- Writing in the encoding planned, once planning was accepted: of writing's questions only the last, 20, is still open, and the scratch stays as planning left
-- it. Planning has asked 21 and 22, an encoding's id is a number from 1 to 7, and the plan takes Dictionary only where it is available: with at most 16,384
-- distinct values.
use mathlib.Core.Path.{◌≡◌, refl, ap}
use mathlib.Core.Bool.{not}
use mathlib.Core.List.{List, ◌++◌}
use Prim.Native.Nat.{ℕ, ◌≤◌}
use native.Mathlib.Nat.{le_refl}
use native.Mathlib.Omega.{arith}
use lib.IntN.{ℤ}
use lib.Dec.{leb}
use lib.ListN.{length, drop}
use lib.Seq.{drop-append_seam}
use borrow.Author.Tests.{leb-true}
use Rattle.format.specs.Outcome.{Outcome, refused, ok, check}
use Rattle.format.specs.Encodings.{id_of, encoding_of, within, max_chunk_elements}
use Rattle.format.specs.Answers.{stored, stored_answer}
use Rattle.format.specs.Chunk.{chunk_of}
use Rattle.format.specs.Distinct.{too_many_distinct, capped_distinct, scratch_needed, scratch_check, collected}
use Rattle.format.specs.Statistics.{analysis_checks}
use Rattle.format.specs.Plan.{plan_of, plan_checks, plan_scratch}
use Rattle.format.specs.Write.{for_dictionary, write_checks, write_outcome, write_answer, write_scratch, scratch_after_checks}
use Rattle.format.specs.declared.encoding.Encoding.{Encoding}
use Rattle.format.specs.declared.encoding.Encoding.TheVariants.{Plain, Varint, BitPacked, FrameOfReference, RunLength, Dictionary, DeltaBinaryPacked}
use Rattle.format.proofs.Codecs.Encodings.{encoding_of-id}
use Rattle.format.proofs.Codecs.Outcome.{both-passed, check-passed}
use Rattle.format.proofs.Plan.Checks.{write_answer-accepted}
use Rattle.format.proofs.Plan.Plan.{plan-available}
use Rattle.round_trip.specs.Trip.{fitting, planned_chunk}

-- ---- an encoding that is accepted with one output is refused with another only by 20

-- what an accepted list of questions found
accepted-found {ℓ} : {A : Type ℓ} (o : Outcome (List A)) {n : ℕ} → stored_answer o ≡ ok n → (front : List A) × (o ≡ ok front)
accepted-found (ok front) h = (front, refl)
accepted-found (refused number offset) h = let z : ◌≡◌ {A = ℕ} 0 1 = cc in absurd (omega arith)

module _ (e : Encoding) (column : List ℤ) (room : ℕ) where
  -- the questions before the scratch is written find the encoding
  found-encoding : {x : Encoding} → write_checks (id_of e) column room ≡ ok x → x ≡ e
  unfolding write_checks
  found-encoding {x} h =
      both-passed (check (within 1 7 (id_of e)) 2 0) _ h λ _ _ h₁.
      both-passed (check (leb (length column) max_chunk_elements) 21 0) _ h₁ λ _ _ h₂.
      both-passed (for_dictionary (ok tt) (scratch_check column room) (encoding_of (id_of e))) _ h₂ λ _ _ h₃.
      cc (encoding_of-id e)

  -- so, if it is written to an output as long as its chunk, then to any other where the chunk fits, or it is 20
  write-fitting : {n : ℕ} → write_answer (id_of e) column room (length (chunk_of e column)) ≡ ok n
      → (space : ℕ) → write_outcome (id_of e) column room space ≡ fitting (chunk_of e column) space
  unfolding write_answer write_outcome fitting
  write-fitting h space =
      let (_, o) = accepted-found (write_outcome (id_of e) column room (length (chunk_of e column))) h in
      both-passed (write_checks (id_of e) column room) _ o λ x checks h₁.
      both-passed (for_dictionary (ok tt) (check (not (too_many_distinct column)) 23 0) x) _ h₁ λ _ few _.
      rw (checks, few, found-encoding checks)

-- ---- after planning

module _ (level : ℕ) (column : List ℤ) (room : ℕ) {u : Unit {0}} (passed : plan_checks level column room ≡ ok u) where
  -- "Planning: level at most 9? 24; then 21, 22": 21 and 22 were passed
  plan-passed : (length column ≤ max_chunk_elements) × (scratch_needed column ≤ room)
  unfolding plan_checks analysis_checks scratch_check
  plan-passed =
      both-passed (check (leb level 9) 24 0) _ passed λ _ _ h₁.
      both-passed (check (leb (length column) max_chunk_elements) 21 0) _ h₁ λ _ few lent.
      (leb-true (length column) max_chunk_elements (check-passed _ 21 0 few), leb-true (scratch_needed column) room (check-passed _ 22 0 lent))

  -- so writing in the encoding planned stores the chunk, or it is 20
  pub write-planned : (space : ℕ) → write_outcome (id_of (plan_of level column).encoding) column room space ≡ fitting (planned_chunk level column) space
  write-planned space =
      let e = (plan_of level column).encoding in
      let (few, lent) = plan-passed in
      let accepted = write_answer-accepted e column room (length (chunk_of e column)) few (plan-available level column) (λ _. lent) (le_refl _) in
      write-fitting e column room accepted space

-- ---- the scratch

module _ (column scratch : List ℤ) where
  -- the distinct values are collected where they stand already
  collected-again : collected column (collected column scratch) ≡ collected column scratch
  unfolding collected stored
  collected-again = ap (λ (l : List ℤ). capped_distinct column ++ l) (drop-append_seam (capped_distinct column) (drop (length (capped_distinct column)) scratch))

  -- and no other encoding touches the scratch
  scratch-stays : (o : Outcome Encoding) → scratch_after_checks o column (collected column scratch) ≡ collected column scratch
  scratch-stays (refused number offset) = refl
  scratch-stays (ok Plain) = refl
  scratch-stays (ok Varint) = refl
  scratch-stays (ok BitPacked) = refl
  scratch-stays (ok FrameOfReference) = refl
  scratch-stays (ok RunLength) = refl
  scratch-stays (ok Dictionary) = collected-again
  scratch-stays (ok DeltaBinaryPacked) = refl

  -- the scratch that planning left is as it was after writing, whatever the encoding
  pub scratch-planned : (level number : ℕ) {u : Unit {0}} → plan_checks level column (length scratch) ≡ ok u
      → write_scratch number column (plan_scratch level column scratch) ≡ plan_scratch level column scratch
  unfolding plan_scratch write_scratch
  scratch-planned level number passed = rw passed (scratch-stays (write_checks number column (length (collected column scratch))))
