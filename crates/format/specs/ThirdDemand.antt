-- The third demand (the mission, "The round trip, as one claim"; 01: "a single claim about planning, writing and reading in a row, not one for each").
-- This file is the statement; proofs/Third/ThirdDemand.antt proves it.
use Rattle.std.specs.Prelude.{◌≡◌, ◌≢◌, Bool, true, false, List, ℕ, ◌≤◌, ℤ, length, take}
use Rattle.format.specs.Keys.{Keys}
use Rattle.format.specs.Encodings.{id_of, max_chunk_elements}
use Rattle.format.specs.Answers.{count_of}
use Rattle.format.specs.Header.{Naming, unnamed, named}
use Rattle.format.specs.Distinct.{capped_distinct, scratch_needed}
use Rattle.format.specs.Chunk.{chunk_of}
use Rattle.format.specs.Write.{write_answer, write_output}
use Rattle.format.specs.Read.{read_answer, read_column}
use Rattle.format.specs.Estimates.{length_in, available_in}
use Rattle.format.specs.Plan.{plan_of, plan_answer, meets_gain}
use Rattle.format.specs.declared.encoding.Encoding.{Encoding}
use Rattle.format.specs.declared.encoding.Encoding.TheVariants.{Plain, Dictionary, DeltaBinaryPacked}
use Rattle.format.specs.declared.PlanReason.TheVariants.{GainBelowThreshold}
use Rattle.format.specs.declared.EncodingPlan.{EncodingPlan}
use Rattle.format.specs.Outcome.{ok}

-- "named by that encoding or not"
pub data NamedFor (encoding : Encoding) : Naming → Type 0 where
  unnamed-reading : NamedFor encoding unnamed
  named-reading : NamedFor encoding (named (id_of encoding))

-- "the bytes that writing stored": as many at the output's front as writing answers
abbrev pub chunk_stored : Encoding → List ℤ → List ℤ → List ℕ → List ℕ
chunk_stored encoding column scratch output =
    take (count_of (write_answer (id_of encoding) column (length scratch) (length output))) (write_output (id_of encoding) column (length scratch) output)

-- "the scratch that 01 names" for writing: only "For Dictionary"
abbrev pub WritingScratch : List ℤ → Encoding → ℕ → Type 0
WritingScratch column encoding room = encoding ≡ Dictionary → scratch_needed column ≤ room

-- What is claimed of a column that is planned at a level with a scratch lent, `lent`, then written in that plan's encoding with a scratch, `scratch`, and an
-- output lent, then read from the bytes that writing stored with a column buffer lent. `plan` is the plan made.
pub record RoundTrip
    (column : List ℤ) (level : ℕ) (lent : List ℤ) (plan : EncodingPlan) (scratch : List ℤ) (output : List ℕ) (buffer : List ℤ) : Type 0 where
  -- "None of this is refused": planning answers with the count of distinct values that it stored, writing with the length of the column's chunk,
  pub planned : plan_answer level column (length lent) ≡ record { answer = ok (length (capped_distinct column)); plan = plan }
  pub written : write_answer (id_of plan.encoding) column (length scratch) (length output) ≡ ok (length (chunk_of plan.encoding column))
  -- and reading, "strict or not", with the column's count; "and reading gives back exactly its keys in order"
  pub read :
      (strict : Bool) (naming : Naming) → NamedFor plan.encoding naming
      → read_answer strict naming (chunk_stored plan.encoding column scratch output) (length buffer) ≡ ok (length column)
  pub back :
      (strict : Bool) (naming : Naming) → NamedFor plan.encoding naming
      → take (length column) (read_column strict naming (chunk_stored plan.encoding column scratch output) buffer) ≡ column
  -- "The chunk has at most the estimated bytes, exactly those unless delta was chosen, never more than the column's plain chunk."
  pub at_most : length (chunk_of plan.encoding column) ≤ plan.estimated_bytes
  pub exactly : plan.encoding ≢ DeltaBinaryPacked → length (chunk_of plan.encoding column) ≡ plan.estimated_bytes
  pub not-above-plain : length (chunk_of plan.encoding column) ≤ length (chunk_of Plain column)
  -- "The bytes of any other chunk are the count that writing this column in that encoding answers, where lent enough."
  pub others :
      (e : Encoding) → available_in plan.estimates e ≡ true → (room space : ℕ) → WritingScratch column e room → length (chunk_of e column) ≤ space
      → write_answer (id_of e) column room space ≡ ok (length (chunk_of e column))
  -- "At levels 1 to 9 the column's chunk in every available encoding but delta has at least as many bytes as the estimate, and delta's own estimate,
  -- where delta is available, is at least that too; save where plain was kept for too little gain"
  pub shortest :
      1 ≤ level → plan.reason ≢ GainBelowThreshold → (e : Encoding) → e ≢ DeltaBinaryPacked → available_in plan.estimates e ≡ true
      → plan.estimated_bytes ≤ length (chunk_of e column)
  pub shortest-delta :
      1 ≤ level → plan.reason ≢ GainBelowThreshold → available_in plan.estimates DeltaBinaryPacked ≡ true
      → plan.estimated_bytes ≤ length_in plan.estimates DeltaBinaryPacked
  -- "there none of these lengths meets 01's test of gain"
  pub no-gain :
      plan.reason ≡ GainBelowThreshold → (e : Encoding) → e ≢ DeltaBinaryPacked → available_in plan.estimates e ≡ true
      → meets_gain level (length (chunk_of Plain column)) (length (chunk_of e column)) ≡ false
  pub no-gain-delta :
      plan.reason ≡ GainBelowThreshold → available_in plan.estimates DeltaBinaryPacked ≡ true
      → meets_gain level (length (chunk_of Plain column)) (length_in plan.estimates DeltaBinaryPacked) ≡ false

-- THE THIRD DEMAND. "For every column of up to 2^24 keys and every level 0 to 9, whatever the buffers held before: plan it, write it in the encoding
-- planned, read those bytes .. This holds with the scratch that 01 names, output as long as the estimate or longer, and a column buffer as long as the
-- column or longer." The scratch lent to writing may be the one that planning left, or another.
pub record ThirdDemand : Type 0 where
  pub holds :
      (column : List ℤ) → Keys column → length column ≤ max_chunk_elements → (level : ℕ) → level ≤ 9
      → (lent : List ℤ) → scratch_needed column ≤ length lent
      → (scratch : List ℤ) → WritingScratch column (plan_of level column).encoding (length scratch)
      → (output : List ℕ) → (plan_of level column).estimated_bytes ≤ length output
      → (buffer : List ℤ) → length column ≤ length buffer
      → RoundTrip column level lent (plan_of level column) scratch output buffer
