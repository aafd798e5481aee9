-- Writing and then reading (01, "Statistics, estimates, plan": "Writing gets the planned column and the plan's encoding; reading, strict or not, named by that encoding or not,
-- gets the bytes that writing stored. Reading gives the column back if it is accepted with the column's count and the buffer's front holds its keys.").
use Rattle.std.specs.Prelude.{ℕ, List, ℤ, Option, Some, None, leb, length}
use Rattle.format.specs.Outcome.{Outcome, ok, check, ◌>>=◌}
use Rattle.format.specs.Header.{Naming, unnamed, named}
use Rattle.format.specs.Write.{write_outcome}

-- the column itself, where writing is not refused and the buffer has `places` enough: else 20, offset the length needed
unfoldable pub back_outcome : ℕ → List ℤ → ℕ → ℕ → ℕ → Outcome (List ℤ)
back_outcome number column room space places = do
  _ ← write_outcome number column room space
  _ ← check (leb (length column) places) 20 (length column)
  ok column

-- "named by that encoding or not"
abbrev pub naming_of : Option ℕ → Naming
naming_of (Some number) = named number
naming_of None = unnamed
