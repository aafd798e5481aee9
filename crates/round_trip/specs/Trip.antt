-- Planning, writing and reading in a row, for every argument (01, "Statistics, estimates, plan": "Writing gets the planned column and the plan's encoding;
-- reading, strict or not, named by that encoding or not, gets the bytes that writing stored."). "The first 'no' decides": after a refused step none runs. Once
-- planning is accepted, 20 is the only refusal left to writing, and after that to reading; that their own questions (Write, Read) come to this is proved with
-- the code.
use Rattle.std.specs.Prelude.{ℕ, List, ℤ, leb, length}
use Rattle.format.specs.Outcome.{Outcome, refused, ok, check, ◌>>=◌}
use Rattle.format.specs.Answers.{stored_answer}
use Rattle.format.specs.Chunk.{chunk_of}
use Rattle.format.specs.Plan.{PlanAnswer, plan_of, plan_checks, plan_answer}

-- what a step answered, or that it did not run, since one before it was refused
pub data Step : Type 0 where
  not-run : Step
  ran : Outcome ℕ → Step

-- what planning, writing and reading answered
pub record Answers : Type 0 where
  pub planned : PlanAnswer
  pub written : Step
  pub read : Step

-- "long enough? 20, offset the length needed": what is to be stored, for a buffer of `room` places
unfoldable pub fitting {ℓ} : {A : Type ℓ} → List A → ℕ → Outcome (List A)
fitting front room = do
  _ ← check (leb (length front) room) 20 (length front)
  ok front

-- the column's chunk in the encoding planned
abbrev pub planned_chunk : ℕ → List ℤ → List ℕ
planned_chunk level column = chunk_of (plan_of level column).encoding column

-- planning with a scratch of `room` places, and writing to an output of `space` bytes: that chunk
unfoldable pub write_trip : ℕ → List ℤ → ℕ → ℕ → Outcome (List ℕ)
write_trip level column room space = do
  _ ← plan_checks level column room
  fitting (planned_chunk level column) space

-- and reading what was written into a column buffer of `places`: the column
unfoldable pub read_trip : ℕ → List ℤ → ℕ → ℕ → ℕ → Outcome (List ℤ)
read_trip level column room space places = do
  _ ← write_trip level column room space
  fitting column places

-- a step after others: it runs where none of them was refused
abbrev pub step_after {ℓ} : {A : Type ℓ} → Outcome A → Outcome ℕ → Step
step_after (refused number offset) answer = not-run
step_after (ok found) answer = ran answer

-- THE ANSWERS of the three steps
unfoldable pub trip_of : ℕ → List ℤ → ℕ → ℕ → ℕ → Answers
trip_of level column room space places =
    record {
      planned = plan_answer level column room;
      written = step_after (plan_checks level column room) (stored_answer (fitting (planned_chunk level column) space));
      read = step_after (write_trip level column room space) (stored_answer (fitting column places));
    }
