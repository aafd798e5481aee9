-- The third demand, of the code (the mission, "The round trip, as one claim"): "For every column of up to 2^24 keys and every level 0 to 9, whatever the
-- buffers held before: plan it, write it in the encoding planned, read those bytes."
use Rattle.std.specs.Prelude.{◌≡◌, List, ℕ, ◌≤◌, ℤ, length, take}
use Rattle.format.specs.Encodings.{max_chunk_elements}
use Rattle.format.specs.Distinct.{capped_distinct, scratch_needed}
use Rattle.format.specs.Chunk.{chunk_of}
use Rattle.format.specs.Plan.{plan_of, plan_scratch}
use Rattle.format.specs.ThirdDemand.{RoundTrip}
use Rattle.format.specs.Outcome.{ok}
use Rattle.round_trip.specs.Trip.{Answers, ran}

-- What the demand names: "every column of up to 2^24 keys and every level 0 to 9 .. with the scratch that 01 names, output as long as the estimate or longer,
-- and a column buffer as long as the column or longer"
pub record Lent (column : List ℤ) (level : ℕ) (scratch : List ℤ) (output : List ℕ) (buffer : List ℤ) : Type 0 where
  pub size : length column ≤ max_chunk_elements
  pub level-most : level ≤ 9
  pub scratch-room : scratch_needed column ≤ length scratch
  pub output-room : (plan_of level column).estimated_bytes ≤ length output
  pub buffer-room : length column ≤ length buffer

-- What it claims of the answers of the three steps, and of the output and the buffer afterwards
pub record Claim
    (column : List ℤ) (level : ℕ) (scratch : List ℤ) (output : List ℕ) (buffer : List ℤ)
    (trip : Answers) (output-after : List ℕ) (buffer-after : List ℤ) : Type 0 where
  -- "None of this is refused"
  pub planned : trip.planned ≡ record { answer = ok (length (capped_distinct column)); plan = plan_of level column }
  pub written : trip.written ≡ ran (ok (length (chunk_of trip.planned.plan.encoding column)))
  pub read : trip.read ≡ ran (ok (length column))
  -- what was written is the column's chunk, "and reading gives back exactly its keys in order"
  pub chunk : take (length (chunk_of trip.planned.plan.encoding column)) output-after ≡ chunk_of trip.planned.plan.encoding column
  pub back : take (length column) buffer-after ≡ column
  -- and all that the demand says of a plan and of the lengths holds of the plan that was made
  pub demand : RoundTrip column level scratch trip.planned.plan (plan_scratch level column scratch) output buffer
