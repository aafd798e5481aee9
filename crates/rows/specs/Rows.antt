-- The records as include/warpboulder.h has them: structs whose fields have eight bytes each, with the numbers of the record. An enum is its place among the
-- variants, an encoding its id, a bool 1 or 0; a signed field and an f64 are themselves.
use Rattle.std.specs.Prelude.{ℕ, Bool, cond, map}
use Rattle.format.specs.Encodings.{id_of, encodings}
use Rattle.format.specs.Statistics.{cardinality_count}
use Rattle.format.specs.Estimates.{is_exact, length_in, available_in}
use Rattle.format.specs.declared.Sortedness.{Sortedness}
use Rattle.format.specs.declared.Sortedness.TheVariants.{Constant, Ascending, Descending, Unsorted}
use Rattle.format.specs.declared.PlanReason.{PlanReason}
use Rattle.format.specs.declared.PlanReason.TheVariants.{Empty, CompressionDisabled, SmallestEstimate, GainBelowThreshold}
use Rattle.format.specs.declared.IntegerStats.{IntegerStats}
use Rattle.format.specs.declared.SizeEstimates.{SizeEstimates}
use Rattle.format.specs.declared.EncodingPlan.{EncodingPlan}
use Rattle.rows.specs.declared.StatsRow.{StatsRow}
use Rattle.rows.specs.declared.EstimatesRow.{EstimatesRow}
use Rattle.rows.specs.declared.PlanRow.{PlanRow}

-- ---- fields

abbrev pub sortedness_number : Sortedness → ℕ
sortedness_number Constant = 0
sortedness_number Ascending = 1
sortedness_number Descending = 2
sortedness_number Unsorted = 3

abbrev pub reason_number : PlanReason → ℕ
reason_number Empty = 0
reason_number CompressionDisabled = 1
reason_number SmallestEstimate = 2
reason_number GainBelowThreshold = 3

abbrev pub flag : Bool → ℕ
flag b = cond b 1 0

-- ---- wb_stats, wb_estimates, wb_plan

abbrev pub stats_row : IntegerStats → StatsRow
stats_row r =
    record {
      count = r.count;
      first = r.first;
      min = r.min;
      max = r.max;
      run_count = r.run_count;
      sortedness = sortedness_number r.sortedness;
      cardinality = cardinality_count r.cardinality;
      cardinality_is_exact = flag (is_exact r.cardinality);
      value_span = r.value_span;
      max_zigzag = r.max_zigzag;
      varint_body_bytes = r.varint_body_bytes;
      run_length_body_bytes = r.run_length_body_bytes;
      delta_min = r.delta_min;
      delta_max = r.delta_max;
      delta_span = r.delta_span;
    }

-- "The seven candidate lengths keep the order of the ids"; then whether they are available
abbrev pub estimates_row : SizeEstimates → EstimatesRow
estimates_row es = record { lengths = map (length_in es) encodings; available = map (λ e. flag (available_in es e)) encodings }

abbrev pub plan_row : EncodingPlan → PlanRow
plan_row p =
    record {
      encoding = id_of p.encoding;
      estimated_bytes = p.estimated_bytes;
      plain_bytes = p.plain_bytes;
      reason = reason_number p.reason;
      run_density = p.run_density;
      estimated_ratio = p.estimated_ratio;
      estimates = estimates_row p.estimates;
    }
