-- The first run of values: where it ends (01, "Written runs are longest possible"); and the runs that a walk has left.
use Rattle.std.specs.Prelude.{◌≡◌, Bool, List, ◌∷◌, ℕ, ◌≤◌, ◌<◌, ℤ, pos, length, get_or, drop, map}
use Rattle.format.specs.Keys.{eq_z}
use Rattle.format.specs.Runs.{Run, runs_from, runs}
use Rattle.runs.specs.declared.writing.Runs.{Runs}

-- the first `end` values as a run
abbrev pub run_of : List ℤ → ℕ → Run
run_of values end = record { key = get_or values 0 (pos 0); times = end }

-- a walk along the first run: every value up to `end` was the same, and the rest is still to come
pub record Running (values : List ℤ) (end : ℕ) : Type 0 where
  pub some : 0 < end
  pub within : end ≤ length values
  pub whole : runs values ≡ runs_from (get_or values 0 (pos 0)) end (drop end values)

-- the whole run: what is written of the values begins with the run up to `end`, and goes on from there
pub record FirstRun (values : List ℤ) (end : ℕ) : Type 0 where
  pub some : 0 < end
  pub within : end ≤ length values
  pub first : runs values ≡ run_of values end ∷ runs (drop end values)

-- the value at `at` is the first
abbrev pub same_key : List ℤ → ℕ → Bool
same_key values at = eq_z (get_or values 0 (pos 0)) (get_or values at (pos 0))

-- the key and the length of a run
abbrev pub parts : Run → ℤ × ℕ
parts r = (r.key, r.times)

-- the runs that a walk has left
unfoldable pub to_come : Runs → List (ℤ × ℕ)
to_come r = map parts (runs r.0.now)
