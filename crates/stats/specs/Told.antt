-- What a result of `analyze_integers` says, as the answer of a call for statistics: a refusal's record is the refused one.
use Rattle.std.specs.Prelude.{Result, Ok, Err}
use Rattle.format.specs.Outcome.{refused, ok}
use Rattle.format.specs.Refusals.{kind_number}
use Rattle.format.specs.Statistics.{StatsAnswer, refused_stats}
use Rattle.format.specs.declared.refusals.Refusal.{Refusal}
use Rattle.stats.specs.declared.Analysis.{Analysis}

abbrev pub stats_told : Result Analysis Refusal → StatsAnswer
stats_told (Ok analysis) = record { answer = ok analysis.stored; stats = analysis.stats }
stats_told (Err refusal) = record { answer = refused (kind_number refusal.kind) refusal.offset; stats = refused_stats }
