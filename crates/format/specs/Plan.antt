-- The plan (01, "Statistics, estimates, plan").
use Rattle.std.specs.Prelude.{ℕ, Bool, false, cond, not, ◌&&◌, ◌||◌, List, [], ◌∷◌, ℤ, pos, leb, ltb, eqb, length, Float}
use Rattle.std.specs.Float.{binary64}
use Rattle.std.specs.Float.Ieee.{round, of_int, sub, mul, div, lt}
use Rattle.format.specs.Outcome.{Outcome, refused, ok, check, ◌>>=◌}
use Rattle.format.specs.Encodings.{id_of, encodings, decode_cost_rank}
use Rattle.format.specs.Distinct.{capped_distinct}
use Rattle.format.specs.Statistics.{stats_of, distinct_values, analysis_checks, scratch_after}
use Rattle.format.specs.Estimates.{estimates_from, length_in, available_in, refused_estimates}
use Rattle.format.specs.declared.encoding.Encoding.{Encoding}
use Rattle.format.specs.declared.encoding.Encoding.TheVariants.{Plain}
use Rattle.format.specs.declared.PlanReason.{PlanReason}
use Rattle.format.specs.declared.PlanReason.TheVariants.{Empty, CompressionDisabled, SmallestEstimate, GainBelowThreshold}
use Rattle.format.specs.declared.IntegerStats.{IntegerStats}
use Rattle.format.specs.declared.SizeEstimates.{SizeEstimates}
use Rattle.format.specs.declared.EncodingPlan.{EncodingPlan}

-- ---- the best candidate

-- e before b: it is available, and its length is less; "equal, the lower `decode_cost_rank`"
unfoldable pub better : SizeEstimates → Encoding → Encoding → Bool
better es e b =
    available_in es e
    && (ltb (length_in es e) (length_in es b) || (eqb (length_in es e) (length_in es b) && ltb (decode_cost_rank e) (decode_cost_rank b)))

-- "the least length of an available candidate; equal, the lower `decode_cost_rank`; equal, the earlier": a walk in which b is the best so far
unfoldable pub best_from : SizeEstimates → Encoding → List Encoding → Encoding
best_from es b [] = b
best_from es b (e ∷ rest) = best_from es (cond (better es e b) e b) rest

-- Plain is always available, and the earliest
unfoldable pub best : SizeEstimates → Encoding
best es = best_from es Plain encodings

-- ---- the test of gain

abbrev pub as_float : ℕ → Float
as_float n = of_int binary64 (pos n)

-- "Gain is 0.20 at levels 1 to 3, 0.05 at 4 to 6, 0.01 above": each the f64 that is nearest to the fraction. It is not asked at level 0
unfoldable pub minimum_gain : ℕ → Float
minimum_gain level = cond (leb level 3) (round binary64 false 20 100) (cond (leb level 6) (round binary64 false 5 100) (round binary64 false 1 100))

-- "plain times (1.0 − gain), one f64 product rounded once"
unfoldable pub threshold : ℕ → ℕ → Float
threshold level plain = mul binary64 (as_float plain) (sub binary64 (as_float 1) (minimum_gain level))

-- "A length meets the test of gain if, as f64, it does not exceed that product."
unfoldable pub meets_gain : ℕ → ℕ → ℕ → Bool
meets_gain level plain bytes = not (lt (threshold level plain) (as_float bytes))

-- ---- the plan, of a record and its distinct values

-- "no values, Plain, Empty. Level 0, Plain, CompressionDisabled. Else .. If not Plain and [the gain is not met], then Plain, GainBelowThreshold;
-- else SmallestEstimate." b is the best candidate.
unfoldable pub reason_of : ℕ → ℕ → SizeEstimates → Encoding → PlanReason
reason_of level count es b =
    cond (eqb count 0) Empty
    (cond (eqb level 0) CompressionDisabled
    (cond (not (eqb (id_of b) 1) && not (meets_gain level (length_in es Plain) (length_in es b))) GainBelowThreshold
    SmallestEstimate))

-- Plain, for every reason but SmallestEstimate
abbrev pub encoding_for : PlanReason → Encoding → Encoding
encoding_for Empty b = Plain
encoding_for CompressionDisabled b = Plain
encoding_for SmallestEstimate b = b
encoding_for GainBelowThreshold b = Plain

-- `run_density`: runs by values, 0.0 for the empty column
unfoldable pub run_density : IntegerStats → Float
run_density r = cond (eqb r.count 0) (as_float 0) (div binary64 (as_float r.run_count) (as_float r.count))

-- `estimated_ratio`: plain bytes by estimated bytes, 1.0 for no bytes
unfoldable pub estimated_ratio : ℕ → ℕ → Float
estimated_ratio plain bytes = cond (eqb bytes 0) (as_float 1) (div binary64 (as_float plain) (as_float bytes))

unfoldable pub plan_from : ℕ → IntegerStats → List ℤ → EncodingPlan
plan_from level r entries =
    let es = estimates_from r entries in
    let reason = reason_of level r.count es (best es) in
    let encoding = encoding_for reason (best es) in
    record {
      encoding = encoding;
      estimated_bytes = length_in es encoding;
      plain_bytes = length_in es Plain;
      reason = reason;
      run_density = run_density r;
      estimated_ratio = estimated_ratio (length_in es Plain) (length_in es encoding);
      estimates = es;
    }

-- the plan of a column at a level
unfoldable pub plan_of : ℕ → List ℤ → EncodingPlan
plan_of level column = plan_from level (stats_of column) (distinct_values column)

-- "A refused .. plan has every number 0, .. Plain, Empty, .. and no candidate available."
unfoldable pub refused_plan : EncodingPlan
refused_plan =
    record {
      encoding = Plain;
      estimated_bytes = 0;
      plain_bytes = 0;
      reason = Empty;
      run_density = as_float 0;
      estimated_ratio = as_float 0;
      estimates = refused_estimates;
    }

-- ---- the call, for a scratch of `room` places

-- "Planning: level at most 9? 24; then 21, 22."
unfoldable pub plan_checks : ℕ → List ℤ → ℕ → Outcome (Unit {0})
plan_checks level column room = do
  _ ← check (leb level 9) 24 0
  analysis_checks column room

-- what the call gives: its answer, and the record
pub record PlanAnswer : Type 0 where
  pub answer : Outcome ℕ
  pub plan : EncodingPlan

abbrev pub plan_after_checks : Outcome (Unit {0}) → ℕ → List ℤ → PlanAnswer
plan_after_checks (refused number offset) level column = record { answer = refused number offset; plan = refused_plan }
plan_after_checks (ok done) level column = record { answer = ok (length (capped_distinct column)); plan = plan_of level column }

unfoldable pub plan_answer : ℕ → List ℤ → ℕ → PlanAnswer
plan_answer level column room = plan_after_checks (plan_checks level column room) level column

-- the scratch after it
unfoldable pub plan_scratch : ℕ → List ℤ → List ℤ → List ℤ
plan_scratch level column scratch = scratch_after (plan_checks level column (length scratch)) column scratch
