-- What a result of `estimate_sizes` says: the answer of a call for statistics, and of one for estimates. Both refuse the same; a refusal's record is the refused one.
use Rattle.std.specs.Prelude.{Result, Ok, Err}
use Rattle.format.specs.Outcome.{refused, ok}
use Rattle.format.specs.Refusals.{kind_number}
use Rattle.format.specs.Estimates.{EstimatesAnswer, refused_estimates}
use Rattle.format.specs.declared.refusals.Refusal.{Refusal}
use Rattle.stats.specs.declared.Analysis.{Analysis}
use Rattle.estimates.specs.declared.Survey.{Survey}

abbrev pub analysis_in : Result Survey Refusal → Result Analysis Refusal
analysis_in (Ok survey) = Ok survey.analysis
analysis_in (Err refusal) = Err refusal

abbrev pub estimates_told : Result Survey Refusal → EstimatesAnswer
estimates_told (Ok survey) = record { answer = ok survey.analysis.stored; estimates = survey.estimates }
estimates_told (Err refusal) = record { answer = refused (kind_number refusal.kind) refusal.offset; estimates = refused_estimates }
