-- Storing at a place of the output: what is left of it, and the place after what was stored. What does not fit leaves both as they were.
use Rattle.std.specs.Prelude.{ℕ, ◌+◌, List, leb, length, Option, None, Some}
use Rattle.std.proofs.lemmas.List.Edits.{sets}
use Rattle.format.specs.Outcome.{Outcome, refused, ok, check, ◌>>=◌}

-- bytes, for `space` bytes: too few are 20, offset the length needed
unfoldable pub fitting : List ℕ → ℕ → Outcome (List ℕ)
fitting bytes space = check (leb (length bytes) space) 20 (length bytes) >>= λ _. ok bytes

-- the output, when bytes were stored from a place on (`sets` stores one after the other)
abbrev pub laid : Outcome (List ℕ) → ℕ → List ℕ → List ℕ
laid (refused number offset) at output = output
laid (ok bytes) at output = sets output at bytes

-- and the place after them
abbrev pub laid_end : Outcome (List ℕ) → ℕ → ℕ
laid_end (refused number offset) at = at
laid_end (ok bytes) at = at + length bytes

-- and that place where they were stored
abbrev pub laid_place : Outcome (List ℕ) → ℕ → Option ℕ
laid_place (refused number offset) at = None
laid_place (ok bytes) at = Some (at + length bytes)
