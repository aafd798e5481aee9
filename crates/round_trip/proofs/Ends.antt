-- The three ways in which a trip ends, each with the answers and buffers that Trip defines: planning was refused; writing was; or what was written was read.
-- The last is the law of reading back what was written (`back_read` of the crate `integer`), with what writing comes to after planning (Writing).
use mathlib.Core.Path.{◌≡◌, refl, sym, ap, ◌∙◌}
use mathlib.Core.Bool.{Bool}
use mathlib.Core.List.{List}
use Prim.Native.Nat.{ℕ, ◌≤◌}
use native.Mathlib.Omega.{arith}
use lib.IntN.{ℤ}
use lib.ListN.{length, take}
use Rattle.format.specs.Outcome.{Outcome, refused, ok}
use Rattle.format.specs.Keys.{Keys}
use Rattle.format.specs.Encodings.{id_of}
use Rattle.format.specs.Answers.{stored_answer, buffer_after}
use Rattle.format.specs.Plan.{PlanAnswer, plan_of, plan_checks, plan_after_checks, plan_answer, plan_scratch}
use Rattle.format.specs.Read.{read_answer, read_column}
use Rattle.format.specs.Write.{write_outcome, write_answer, write_output, write_scratch}
use Rattle.std.specs.Prelude.{Option}
use Rattle.std.specs.Bool.{then_some}
use Rattle.format.proofs.Third.Buffers.{length-plan_scratch}
use Rattle.integer.specs.Back.{naming_of, back_outcome}
use Rattle.integer.proofs.Back.{back-front, back_read}
use Rattle.round_trip.specs.Trip.{fitting, planned_chunk, write_trip, read_trip, Answers, not-run, ran, trip_of}
use Rattle.round_trip.proofs.Writing.{write-planned, scratch-planned}

-- ---- what an answer says of the questions

-- a refused list stored nothing
stored_refused {ℓ} : {A : Type ℓ} (o : Outcome (List A)) {n k : ℕ} → stored_answer o ≡ refused n k → o ≡ refused n k
stored_refused (refused number offset) h = cc
stored_refused (ok front) h = let z : ◌≡◌ {A = ℕ} 0 1 = cc in absurd (omega arith)

module _ (level : ℕ) (column : List ℤ) (room : ℕ) where
  -- a refused plan was refused by its questions
  plan-refused : {n k : ℕ} → (plan_answer level column room).answer ≡ refused n k → plan_checks level column room ≡ refused n k
  unfolding plan_answer
  plan-refused {n} {k} h = go (plan_checks level column room) h
    where
      go : (o : Outcome (Unit {0})) → (plan_after_checks o level column).answer ≡ refused n k → o ≡ refused n k
      go (refused number offset) p = cc
      go (ok done) p = let z : ◌≡◌ {A = ℕ} 0 1 = cc in absurd (omega arith)

  -- an accepted one passed them, and is the column's
  pub plan-accepted : {n : ℕ} → (plan_answer level column room).answer ≡ ok n
      → (plan_checks level column room ≡ ok tt) × ((plan_answer level column room).plan ≡ plan_of level column)
  unfolding plan_answer
  plan-accepted {n} h = go (plan_checks level column room) h
    where
      go : (o : Outcome (Unit {0})) → (plan_after_checks o level column).answer ≡ ok n
          → (o ≡ ok tt) × ((plan_after_checks o level column).plan ≡ plan_of level column)
      go (refused number offset) p = let z : ◌≡◌ {A = ℕ} 0 1 = cc in absurd (omega arith)
      go (ok done) p = (refl, refl)

-- ---- the ends

module _ (level : ℕ) (column scratch : List ℤ) (output : List ℕ) where
  -- the answers and the buffers are those that Trip defines
  pub record Ends (buffer : List ℤ) (trip : Answers) (scratch_after : List ℤ) (output-after : List ℕ) (buffer-after : List ℤ) : Type 0 where
    pub trip-is : trip ≡ trip_of level column (length scratch) (length output) (length buffer)
    pub scratch-is : scratch_after ≡ plan_scratch level column scratch
    pub output-is : output-after ≡ buffer_after (write_trip level column (length scratch) (length output)) output
    pub buffer-is : buffer-after ≡ buffer_after (read_trip level column (length scratch) (length output) (length buffer)) buffer

  -- planning was refused
  pub not-planned : (buffer : List ℤ) {planned : PlanAnswer} {trip : Answers} {after : List ℤ} {n k : ℕ} → planned ≡ plan_answer level column (length scratch)
      → after ≡ plan_scratch level column scratch → planned.answer ≡ refused n k → trip ≡ record { planned = planned; written = not-run; read = not-run }
      → Ends buffer trip after output buffer
  unfolding trip_of write_trip read_trip
  not-planned buffer is left told made =
      let no = plan-refused level column (length scratch) (sym (ap (λ (p : PlanAnswer). p.answer) is) ∙ told) in
      record { trip-is = rw (made, is, no); scratch-is = left; output-is = rw no; buffer-is = rw no }

  -- planning was accepted, and writing in its encoding has answered
  pub record Wrote (planned : PlanAnswer) (number : ℕ) (answer : Outcome ℕ) (scratch_after : List ℤ) (output-after : List ℕ) : Type 0 where
    pub planned-is : planned ≡ plan_answer level column (length scratch)
    pub passed : plan_checks level column (length scratch) ≡ ok tt
    pub outcome : write_outcome number column (length scratch) (length output) ≡ fitting (planned_chunk level column) (length output)
    pub answer-is : answer ≡ write_answer number column (length scratch) (length output)
    pub scratch-is : scratch_after ≡ plan_scratch level column scratch
    pub output-is : output-after ≡ write_output number column (length scratch) output

  -- so much is known from what planning and writing ensure
  pub wrote : {planned : PlanAnswer} {left : List ℤ} {number : ℕ} {answer : Outcome ℕ} {scratch_after : List ℤ} {output-after : List ℕ} {n : ℕ}
      → planned ≡ plan_answer level column (length scratch) → left ≡ plan_scratch level column scratch → planned.answer ≡ ok n
      → number ≡ id_of planned.plan.encoding
      → (answer ≡ write_answer number column (length left) (length output))
      × ((scratch_after ≡ write_scratch number column left) × (output-after ≡ write_output number column (length left) output))
      → Wrote planned number answer scratch_after output-after
  wrote {number = number} is left told numbered done =
      let yes = plan-accepted level column (length scratch) (sym (ap (λ (p : PlanAnswer). p.answer) is) ∙ told) in
      let encoding = ap (λ (p : PlanAnswer). p.plan.encoding) is in
      let room = ap length left ∙ length-plan_scratch column scratch level in
      record {
        planned-is = is;
        passed = yes.0;
        outcome = rw (numbered, encoding, yes.1) (write-planned level column (length scratch) yes.0 (length output));
        answer-is = rw room at done.0;
        scratch-is = done.1.0 ∙ ap (write_scratch number column) left ∙ scratch-planned column scratch level number yes.0;
        output-is = rw room at done.1.1;
      }

  module _ {planned : PlanAnswer} {number : ℕ} {answer : Outcome ℕ} {scratch_after : List ℤ} {output-after : List ℕ}
      (w : Wrote planned number answer scratch_after output-after) (buffer : List ℤ) where
    -- writing was refused
    pub not_written : {n k : ℕ} {trip : Answers} → answer ≡ refused n k
        → trip ≡ record { planned = planned; written = ran answer; read = not-run } → Ends buffer trip scratch_after output-after buffer
    unfolding trip_of write_trip read_trip write_answer write_output
    not_written told made =
        let no = stored_refused (write_outcome number column (length scratch) (length output)) (sym w.answer-is ∙ told) in
        let fit = sym w.outcome ∙ no in
        record {
          trip-is = rw (made, told, w.planned-is, w.passed, fit);
          scratch-is = w.scratch-is;
          output-is = rw (w.output-is, no, w.passed, fit);
          buffer-is = rw (w.passed, fit);
        }

    module _ {n : ℕ} (told : answer ≡ ok n) where
      -- the output's front is the chunk that writing found
      front : (bytes : List ℕ) × (write_outcome number column (length scratch) (length output) ≡ ok bytes) × (n ≡ length bytes)
          × (n ≤ length (write_output number column (length scratch) output)) × (take n (write_output number column (length scratch) output) ≡ bytes)
      front = back-front number column (length scratch) output buffer (sym w.answer-is ∙ told)

      -- the bytes that writing stored are there
      pub written-there : n ≤ length output-after
      written-there = rw w.output-is front.3

      -- reading them can be refused with 20 alone
      back_fits : back_outcome number column (length scratch) (length output) (length buffer) ≡ fitting column (length buffer)
      unfolding back_outcome fitting
      back_fits = rw front.1

      -- and they were read
      pub read_back : Keys column → {name : Option ℕ} (naming strict : Bool) → name ≡ then_some naming number → {read : Outcome ℕ} {buffer-after : List ℤ}
          → (read ≡ read_answer strict (naming_of name) (take n output-after) (length buffer))
          × (buffer-after ≡ read_column strict (naming_of name) (take n output-after) buffer)
          → Ends buffer (record { planned = planned; written = ran (ok n); read = ran read }) scratch_after output-after buffer-after
      unfolding trip_of write_trip read_trip write_answer write_output
      read_back keys naming strict named done =
          let back = back_read number column (length scratch) output buffer (sym w.answer-is ∙ told) keys naming strict named w.output-is done in
          let found = sym w.outcome ∙ front.1 in
          record {
            trip-is = rw (ap ran (sym told ∙ w.answer-is), w.outcome, back.0, back_fits, w.planned-is, w.passed, found);
            scratch-is = w.scratch-is;
            output-is = rw (w.output-is, w.outcome, w.passed);
            buffer-is = rw (back.1, back_fits, w.passed, found);
          }
