-- THE THIRD DEMAND, proved. Planning, writing and reading are each accepted by the laws of Plan/Checks and Codecs/Chunk. The lengths follow from two facts:
-- an available estimate is its chunk's length, for delta at least that (Lengths/Exact, Lengths/Chunks), and the plan takes the least available estimate, or
-- Plain where that one's gain is too small (Plan/Plan).
use mathlib.Core.Path.{◌≡◌, sym, ◌∙◌}
use mathlib.Core.Logic.{◌≢◌}
use Prim.Native.Nat.{ℕ, ◌≤◌}
use native.Mathlib.Nat.{le_trans, le_of_eq}
use mathlib.Core.Bool.{Bool, true, false}
use mathlib.Core.List.{List}
use lib.IntN.{ℤ}
use lib.ListN.{length, take}
use Rattle.format.specs.Keys.{Keys}
use Rattle.format.specs.Encodings.{id_of, max_chunk_elements}
use Rattle.format.specs.Header.{Naming}
use Rattle.format.specs.Chunk.{chunk_of}
use Rattle.format.specs.Write.{write_answer}
use Rattle.format.specs.Read.{read_answer, read_column}
use Rattle.format.specs.Estimates.{estimates_of, length_in, available_in}
use Rattle.format.specs.Plan.{plan_of, meets_gain}
use Rattle.format.specs.ThirdDemand.{NamedFor, chunk_stored, WritingScratch, ThirdDemand}
use Rattle.format.specs.declared.encoding.Encoding.{Encoding}
use Rattle.format.specs.declared.encoding.Encoding.TheVariants.{Plain, DeltaBinaryPacked}
use Rattle.format.specs.declared.PlanReason.TheVariants.{GainBelowThreshold}
use Rattle.format.proofs.Codecs.Chunk.{read_answer-back, read_column-front}
use Rattle.format.proofs.Lengths.Exact.{plain-exact, chunk-exact}
use Rattle.format.proofs.Lengths.Chunks.{chunk-at-most}
use Rattle.format.proofs.Plan.Plan.{plan-estimates, plan-bytes, plan-plain, plan-available, plan-not-above, plan-smallest, plan-no-gain}
use Rattle.format.proofs.Plan.Checks.{plan_answer-accepted, write_answer-accepted, chunk_stored-chunk}
use Rattle.format.specs.Outcome.{ok}

-- the encoding planned
abbrev planned : ℕ → List ℤ → Encoding
planned level column = (plan_of level column).encoding

-- "The estimate there is the length carried in the plan"
abbrev estimate : ℕ → List ℤ → ℕ
estimate level column = (plan_of level column).estimated_bytes

-- ---- the lengths

module _ (column : List ℤ) (keys : Keys column) (level : ℕ) where
  -- "The chunk has at most the estimated bytes,
  planned-at-most : length (chunk_of (planned level column) column) ≤ estimate level column
  planned-at-most = rw plan-bytes (chunk-at-most column keys (planned level column) (plan-available level column))

  -- exactly those unless delta was chosen,
  planned-exactly : planned level column ≢ DeltaBinaryPacked → length (chunk_of (planned level column) column) ≡ estimate level column
  planned-exactly other = rw plan-bytes (chunk-exact column keys (planned level column) other (plan-available level column))

  -- never more than the column's plain chunk."
  planned-not-above-plain : length (chunk_of (planned level column) column) ≤ length (chunk_of Plain column)
  planned-not-above-plain =
      let plain : (plan_of level column).plain_bytes ≡ length (chunk_of Plain column) = plan-plain level column ∙ sym (plain-exact column) in
      le_trans planned-at-most (le_trans (plan-not-above level column) (le_of_eq plain))

  -- "At levels 1 to 9 the column's chunk in every available encoding but delta has at least as many bytes as the estimate .. save where plain was kept
  -- for too little gain"
  chunk-not-below :
      1 ≤ level → (plan_of level column).reason ≢ GainBelowThreshold → (e : Encoding) → e ≢ DeltaBinaryPacked → available_in (estimates_of column) e ≡ true
      → estimate level column ≤ length (chunk_of e column)
  chunk-not-below h gain e other there = rw (chunk-exact column keys e other there) (plan-smallest level column h gain e there)

  -- "there none of these lengths meets 01's test of gain"
  chunk-no-gain :
      (plan_of level column).reason ≡ GainBelowThreshold → (e : Encoding) → e ≢ DeltaBinaryPacked → available_in (estimates_of column) e ≡ true
      → meets_gain level (length (chunk_of Plain column)) (length (chunk_of e column)) ≡ false
  chunk-no-gain little e other there = rw (plain-exact, chunk-exact column keys e other there) (plan-no-gain level column little e there)

  -- and so for delta's own estimate
  delta-no-gain :
      (plan_of level column).reason ≡ GainBelowThreshold → available_in (estimates_of column) DeltaBinaryPacked ≡ true
      → meets_gain level (length (chunk_of Plain column)) (length_in (estimates_of column) DeltaBinaryPacked) ≡ false
  delta-no-gain little there = rw plain-exact (plan-no-gain level column little DeltaBinaryPacked there)

-- ---- writing and reading, with the buffers that are lent

module _ (column : List ℤ) (keys : Keys column) (size : length column ≤ max_chunk_elements) (level : ℕ)
    (scratch : List ℤ) (scratch-room : WritingScratch column (planned level column) (length scratch))
    (output : List ℕ) (output-room : estimate level column ≤ length output) where
  -- the output has room for the chunk, which has at most the estimated bytes
  planned-fits : length (chunk_of (planned level column) column) ≤ length output
  planned-fits = le_trans (planned-at-most column keys level) output-room

  -- writing is accepted,
  written : write_answer (id_of (planned level column)) column (length scratch) (length output) ≡ ok (length (chunk_of (planned level column) column))
  written = write_answer-accepted (planned level column) column (length scratch) (length output) size (plan-available level column) scratch-room planned-fits

  -- and "the bytes that writing stored" are the chunk
  stored-chunk : chunk_stored (planned level column) column scratch output ≡ chunk_of (planned level column) column
  stored-chunk = chunk_stored-chunk (planned level column) column scratch output size (plan-available level column) scratch-room planned-fits

  module _ (buffer : List ℤ) (buffer-room : length column ≤ length buffer)
      (strict : Bool) (naming : Naming) (names : NamedFor (planned level column) naming) where
    -- reading those bytes is accepted, with the column's count,
    read-accepted : read_answer strict naming (chunk_stored (planned level column) column scratch output) (length buffer) ≡ ok (length column)
    read-accepted = rw stored-chunk (read_answer-back (planned level column) strict column keys size names (length buffer) buffer-room)

    -- "and the buffer's front holds its keys"
    read_back : take (length column) (read_column strict naming (chunk_stored (planned level column) column scratch output) buffer) ≡ column
    read_back = rw stored-chunk (read_column-front (planned level column) strict column keys size names buffer buffer-room)

-- ---- the demand

-- "a single claim about planning, writing and reading in a row". The estimates that the plan holds are the column's (`plan-estimates`)
pub third : ThirdDemand
third = record {
  holds = λ column keys size level level-most lent lent-room scratch scratch-room output output-room buffer buffer-room.
      record {
        planned = plan_answer-accepted level column (length lent) level-most size lent-room;
        written = written column keys size level scratch scratch-room output output-room;
        read = read-accepted column keys size level scratch scratch-room output output-room buffer buffer-room;
        back = read_back column keys size level scratch scratch-room output output-room buffer buffer-room;
        at_most = planned-at-most column keys level;
        exactly = planned-exactly column keys level;
        not-above-plain = planned-not-above-plain column keys level;
        others = rw plan-estimates (λ e there room space enough fits. write_answer-accepted e column room space size there enough fits);
        shortest = rw plan-estimates (chunk-not-below column keys level);
        shortest-delta = rw plan-estimates (λ h gain there. plan-smallest level column h gain DeltaBinaryPacked there);
        no-gain = rw plan-estimates (chunk-no-gain column keys level);
        no-gain-delta = rw plan-estimates (delta-no-gain column keys level);
      };
}
