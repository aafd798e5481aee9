-- What a trip says, as the answers of its three steps.
use Rattle.std.specs.Prelude.{ℕ, Result, Option, Some, None}
use Rattle.format.specs.Answers.{outcome_of}
use Rattle.format.specs.declared.refusals.Refusal.{Refusal}
use Rattle.plan.specs.Told.{plan_told}
use Rattle.round_trip.specs.Trip.{Step, not-run, ran, Answers}
use Rattle.round_trip.specs.declared.Trip.{Trip}

abbrev pub step_told : Option (Result ℕ Refusal) → Step
step_told None = not-run
step_told (Some answer) = ran (outcome_of answer)

abbrev pub trip_told : Trip → Answers
trip_told trip = record { planned = plan_told trip.planned; written = step_told trip.written; read = step_told trip.read }
