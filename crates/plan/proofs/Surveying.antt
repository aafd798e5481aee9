-- From the survey of a column to its plan. Both put the same questions to column and scratch, 21 and 22; so each claim is shown for any outcome of these, by cases.
-- A plan asks for its level before.
use Rattle.std.proofs.Common.{◌≡◌, ℕ, ◌<◌, ◌≤◌, List, ℤ, ap, arith, le-leb}
use borrow.Author.Tests.{lt-leb}
use Rattle.format.specs.Outcome.{Outcome, refused, ok}
use Rattle.format.specs.Statistics.{StatsAnswer, distinct_values, analysis_checks, stats_after_checks, stats_answer, analysis_scratch}
use Rattle.format.specs.Estimates.{EstimatesAnswer, estimates_from, estimates_of, estimates_after_checks, estimates_answer}
use Rattle.format.specs.Plan.{PlanAnswer, plan_from, plan_of, refused_plan, plan_checks, plan_after_checks, plan_answer, plan_scratch}
use Rattle.format.specs.declared.EncodingPlan.{EncodingPlan}
use Rattle.format.specs.declared.IntegerStats.{IntegerStats}
use Rattle.format.specs.declared.SizeEstimates.{SizeEstimates}

-- the three answers
abbrev analysed : Outcome ℕ → IntegerStats → StatsAnswer
analysed answer stats = record { answer = answer; stats = stats }

abbrev estimated : Outcome ℕ → SizeEstimates → EstimatesAnswer
estimated answer estimates = record { answer = answer; estimates = estimates }

abbrev planned : Outcome ℕ → EncodingPlan → PlanAnswer
planned answer plan = record { answer = answer; plan = plan }

-- ---- for any outcome

refused-after : (o : Outcome (Unit {0})) (level : ℕ) (column : List ℤ) {number offset : ℕ}
    → refused number offset ≡ (stats_after_checks o column).answer → planned (refused number offset) refused_plan ≡ plan_after_checks o level column
refused-after (refused n k) level column told = ap (λ (a : Outcome ℕ). planned a refused_plan) told
refused-after (ok done) level column {number} {offset} told =
    let z : ◌≡◌ {A = ℕ} 0 1 = cc in absurd (omega arith)

-- the plan is the one that the record and the estimates give, whatever distinct values these were made of
accepted-after : (o : Outcome (Unit {0})) (level : ℕ) (column : List ℤ) {n : ℕ} {r : IntegerStats} {es : SizeEstimates} {plan : EncodingPlan}
    → analysed (ok n) r ≡ stats_after_checks o column → estimated (ok n) es ≡ estimates_after_checks o column
    → ((entries : List ℤ) → es ≡ estimates_from r entries → plan ≡ plan_from level r entries) → planned (ok n) plan ≡ plan_after_checks o level column
unfolding plan_of estimates_of
accepted-after (refused number offset) level column {n} told made chosen =
    let h : ok n ≡ refused number offset = ap (λ (a : StatsAnswer). a.answer) told in
    let z : ◌≡◌ {A = ℕ} 0 1 = cc in absurd (omega arith)
accepted-after (ok done) level column told made chosen =
    let stats = ap (λ (a : StatsAnswer). a.stats) told in
    let answer = ap (λ (a : StatsAnswer). a.answer) told in
    let estimates = ap (λ (a : EstimatesAnswer). a.estimates) made in
    rw (answer, chosen (distinct_values column) (rw (estimates, stats)), stats)

-- ---- for a column and a scratch

module _ (level : ℕ) (column : List ℤ) (room : ℕ) where
  -- a plan at a level of at most 9 is refused where the survey is,
  pub survey_refused : level ≤ 9 → {number offset : ℕ}
      → refused number offset ≡ (stats_answer column room).answer
      → ◌≡◌ {A = PlanAnswer} (record { answer = refused number offset; plan = refused_plan }) (plan_answer level column room)
  unfolding stats_answer plan_answer plan_checks
  survey_refused low told = rw (le-leb level 9 low) (refused-after (analysis_checks column room) level column told)

  -- and is else made of it
  pub survey_accepted : level ≤ 9 → {n : ℕ} {r : IntegerStats} {es : SizeEstimates} {plan : EncodingPlan}
      → ◌≡◌ {A = StatsAnswer} (record { answer = ok n; stats = r }) (stats_answer column room)
      → ◌≡◌ {A = EstimatesAnswer} (record { answer = ok n; estimates = es }) (estimates_answer column room)
      → ((entries : List ℤ) → es ≡ estimates_from r entries → plan ≡ plan_from level r entries)
      → ◌≡◌ {A = PlanAnswer} (record { answer = ok n; plan = plan }) (plan_answer level column room)
  unfolding stats_answer estimates_answer plan_answer plan_checks
  survey_accepted low told made chosen = rw (le-leb level 9 low) (accepted-after (analysis_checks column room) level column told made chosen)

-- above it is refused for its level
pub level_refused : (level : ℕ) (column : List ℤ) (room : ℕ) → 9 < level → ◌≡◌ {A = PlanAnswer} (record { answer = refused 24 0; plan = refused_plan }) (plan_answer level column room)
unfolding plan_answer plan_checks
level_refused level column room high = rw (lt-leb level 9 high)

-- ---- the scratch after a plan

-- at a level of at most 9 it is that after a call for statistics
pub plan_scratch_low : (level : ℕ) (column scratch : List ℤ) → level ≤ 9 → analysis_scratch column scratch ≡ plan_scratch level column scratch
unfolding plan_scratch plan_checks analysis_scratch
plan_scratch_low level column scratch low = rw (le-leb level 9 low)

-- above it is left as it was
pub plan_scratch_high : (level : ℕ) (column scratch : List ℤ) → 9 < level → scratch ≡ plan_scratch level column scratch
unfolding plan_scratch plan_checks
plan_scratch_high level column scratch high = rw (lt-leb level 9 high)
