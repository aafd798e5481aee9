-- `estimate_sizes` meets its contract: the record and the entries give the column's estimates (`Surveying`).
use mathlib.Core.Path.{sym}
use borrow.Author.Rules.{rules}
use lib.Seq.{length-take-le}
use Rattle.estimates.proofs.Surveying.{Ready, survey_refused, survey_ready, survey_accepted}
use Rattle.estimates.proofs.estimate_sizes.Goals as goal
use Rattle.estimates.proofs.estimate_sizes.Goals.{In_ok-analysis}

ready : (c : In_ok-analysis) → Ready c.in_ok-analysis.analysis.stats c.analyze_integers.new.scratch c.in_ok-analysis.analysis.stored
ready c = survey_ready _ _ c.in_ok-analysis.ensures.value c.analyze_integers.ensures.scratch_after

pub slice_bounds-estimates-end : goal.slice_bounds-estimates-end
slice_bounds-estimates-end c = (ready (goal.at.slice_bounds-estimates-end c).In_ok-analysis).there

pub slice_bounds-estimates-end-2 : goal.slice_bounds-estimates-end-2
slice_bounds-estimates-end-2 c = sym (length-take-le _ _ (ready (goal.at.slice_bounds-estimates-end-2 c).In_ok-analysis).there)

pub invariant_of-measured : goal.invariant_of-measured
invariant_of-measured c = record { within = (ready (goal.at.invariant_of-measured c).In_ok-analysis).within }

pub estimates-estimates-requires : goal.estimates-estimates-requires
estimates-estimates-requires c = (ready (goal.at.estimates-estimates-requires c).In_ok-analysis).few

pub returns-clause-estimated : goal.returns-clause-estimated
returns-clause-estimated c = survey_accepted _ _ c.in_ok-analysis.ensures.value c.analyze_integers.ensures.scratch_after c.estimates-estimates.ensures

pub returns-in_err-analysis-clause-estimated : goal.returns-in_err-analysis-clause-estimated
returns-in_err-analysis-clause-estimated c =
    let told = survey_refused _ _ c.in_err-analysis.ensures.value in search (rules, told)
