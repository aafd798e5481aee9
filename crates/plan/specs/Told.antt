-- What a result of `analyze` says, as the answer of a call for a plan: a refusal's plan is the refused one.
use Rattle.std.specs.Prelude.{Result, Ok, Err}
use Rattle.format.specs.Outcome.{refused, ok}
use Rattle.format.specs.Refusals.{kind_number}
use Rattle.format.specs.Plan.{PlanAnswer, refused_plan}
use Rattle.format.specs.declared.refusals.Refusal.{Refusal}
use Rattle.plan.specs.declared.Planned.{Planned}

abbrev pub plan_told : Result Planned Refusal → PlanAnswer
plan_told (Ok planned) = record { answer = ok planned.stored; plan = planned.plan }
plan_told (Err refusal) = record { answer = refused (kind_number refusal.kind) refusal.offset; plan = refused_plan }
