-- Statistics (01, "Statistics, estimates, plan"): "The record has the fields of `IntegerStats`; the empty column has all zeros, Constant, Exact(0).
-- With one value the delta fields are 0."
use Rattle.std.specs.Prelude.{ℕ, ◌+◌, Bool, true, false, cond, ◌&&◌, List, [], ◌∷◌, map, ℤ, pos, leb, length, get_or}
use Rattle.std.specs.Int.Signed.{le_z}
use Rattle.format.specs.Outcome.{Outcome, refused, ok, check, ◌>>=◌}
use Rattle.format.specs.Keys.{gap, zigzag}
use Rattle.format.specs.Varint.{uvarint_len, varint_len}
use Rattle.format.specs.Folds.{least, greatest, largest, total, deltas}
use Rattle.format.specs.Encodings.{max_chunk_elements, max_dictionary_cardinality}
use Rattle.format.specs.Runs.{Run, runs}
use Rattle.format.specs.Distinct.{distinct, too_many_distinct, capped_distinct, scratch_check, collected}
use Rattle.format.specs.declared.Sortedness.{Sortedness}
use Rattle.format.specs.declared.Sortedness.TheVariants.{Constant, Ascending, Descending, Unsorted}
use Rattle.format.specs.declared.Cardinality.{Cardinality}
use Rattle.format.specs.declared.Cardinality.TheVariants.{Exact, AtLeast}
use Rattle.format.specs.declared.IntegerStats.{IntegerStats}

-- ---- the record

-- no value is less than the one before it: a walk after a value `last`
unfoldable pub non_decreasing : ℤ → List ℤ → Bool
non_decreasing last [] = true
non_decreasing last (v ∷ vs) = le_z last v && non_decreasing v vs

-- no value is greater than the one before it
unfoldable pub non_increasing : ℤ → List ℤ → Bool
non_increasing last [] = true
non_increasing last (v ∷ vs) = le_z v last && non_increasing v vs

-- by whether the values never fall, and whether they never rise
abbrev pub sortedness_from : Bool → Bool → Sortedness
sortedness_from true true = Constant
sortedness_from true false = Ascending
sortedness_from false true = Descending
sortedness_from false false = Unsorted

unfoldable pub sortedness_of : List ℤ → Sortedness
sortedness_of [] = Constant
sortedness_of (v ∷ vs) = sortedness_from (non_decreasing v vs) (non_increasing v vs)

-- "Above 16,384 distinct values the cardinality is AtLeast(16385)."
unfoldable pub cardinality_of : List ℤ → Cardinality
cardinality_of column = cond (too_many_distinct column) (AtLeast (max_dictionary_cardinality + 1)) (Exact (length (distinct column)))

-- the number of distinct values, or the number that there are at least
abbrev pub cardinality_count : Cardinality → ℕ
cardinality_count (Exact n) = n
cardinality_count (AtLeast n) = n

-- how many bytes a run takes: "per run a signed varint and a length"
unfoldable pub run_len : Run → ℕ
run_len r = varint_len r.key + uvarint_len r.times

-- the statistics of a column
unfoldable pub stats_of : List ℤ → IntegerStats
stats_of column =
    record {
      count = length column;
      first = get_or column 0 (pos 0);
      min = least column;
      max = greatest column;
      run_count = length (runs column);
      sortedness = sortedness_of column;
      cardinality = cardinality_of column;
      value_span = gap (least column) (greatest column);
      max_zigzag = largest (map zigzag column);
      varint_body_bytes = total (map varint_len column);
      run_length_body_bytes = total (map run_len (runs column));
      delta_min = least (deltas column);
      delta_max = greatest (deltas column);
      delta_span = gap (least (deltas column)) (greatest (deltas column));
    }

-- "A refused record .. has every number 0, Constant, Exact(0)": that of the empty column
unfoldable pub refused_stats : IntegerStats
refused_stats =
    record {
      count = 0;
      first = pos 0;
      min = pos 0;
      max = pos 0;
      run_count = 0;
      sortedness = Constant;
      cardinality = Exact 0;
      value_span = 0;
      max_zigzag = 0;
      varint_body_bytes = 0;
      run_length_body_bytes = 0;
      delta_min = pos 0;
      delta_max = pos 0;
      delta_span = 0;
    }

-- ---- the calls, for a scratch of `room` places

-- "Statistics or estimates alone: 21, 22."
unfoldable pub analysis_checks : List ℤ → ℕ → Outcome (Unit {0})
analysis_checks column room = do
  _ ← check (leb (length column) max_chunk_elements) 21 0
  scratch_check column room

-- what the call gives: its answer, and the record
pub record StatsAnswer : Type 0 where
  pub answer : Outcome ℕ
  pub stats : IntegerStats

-- statistics: accepted, with the count of values that the scratch's front holds
abbrev pub stats_after_checks : Outcome (Unit {0}) → List ℤ → StatsAnswer
stats_after_checks (refused number offset) column = record { answer = refused number offset; stats = refused_stats }
stats_after_checks (ok done) column = record { answer = ok (length (capped_distinct column)); stats = stats_of column }

unfoldable pub stats_answer : List ℤ → ℕ → StatsAnswer
stats_answer column room = stats_after_checks (analysis_checks column room) column

-- "Scratch after a call for statistics, distinct values, estimates or a plan that was not refused"
abbrev pub scratch_after : Outcome (Unit {0}) → List ℤ → List ℤ → List ℤ
scratch_after (refused number offset) column scratch = scratch
scratch_after (ok done) column scratch = collected column scratch

unfoldable pub analysis_scratch : List ℤ → List ℤ → List ℤ
analysis_scratch column scratch = scratch_after (analysis_checks column (length scratch)) column scratch

-- "The distinct values are handed back as a part of the scratch, ..; the part is empty above 16,384 and where 21 or 22 refuses."
unfoldable pub distinct_values : List ℤ → List ℤ
distinct_values column = cond (too_many_distinct column) [] (distinct column)

abbrev pub distinct_after_checks : Outcome (Unit {0}) → List ℤ → List ℤ
distinct_after_checks (refused number offset) column = []
distinct_after_checks (ok done) column = distinct_values column

unfoldable pub distinct_values_part : List ℤ → ℕ → List ℤ
distinct_values_part column room = distinct_after_checks (analysis_checks column room) column
