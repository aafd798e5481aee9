-- What a scan of the bytes tells: every varint can be read.
use Rattle.std.specs.Prelude.{ℕ, ◌≡◌, List, Option}
use Rattle.format.specs.Outcome.{ok}
use Rattle.format.specs.declared.Extent.{Extent}
use Rattle.format.specs.Varint.{validate_uvarints}

-- n varints in a row stand in s from `at` on, whatever was padded before them
abbrev pub Passes : List ℕ → ℕ → ℕ → Type 0
Passes s at n = (padded : Option ℕ) → (x : Extent) × (validate_uvarints s at n padded ≡ ok x)
