-- 5. RunLength (01, "The chunk"): "run total, then per run a signed varint and a length. Written runs are longest possible; a zero length is read."
use Rattle.std.specs.Prelude.{ℕ, zero, suc, ◌+◌, ◌-◌, cond, List, [], ◌∷◌, ◌++◌, ℤ, leb, eqb, length, replicate, Option}
use Rattle.format.specs.Outcome.{Outcome, ok, check, ◌>>=◌}
use Rattle.format.specs.Keys.{eq_z, unzigzag}
use Rattle.format.specs.declared.Extent.{Extent}
use Rattle.format.specs.Varint.{uvarint_bytes, varint_bytes, read_uvarint, uvarint_at, first_padded}

-- ---- writing

-- a run: a value, so many times
pub record Run : Type 0 where
  pub key : ℤ
  pub times : ℕ

-- "Written runs are longest possible": a walk in which `key` has been met `times` times in a row and the rest is still to come. Another value ends the
-- run. (There is one recursive call, since antt would compute both of two.)
unfoldable pub runs_from : ℤ → ℕ → List ℤ → List Run
runs_from key times [] = record { key = key; times = times } ∷ []
runs_from key times (v ∷ vs) =
    cond (eq_z key v) [] (record { key = key; times = times } ∷ []) ++ runs_from v (cond (eq_z key v) (times + 1) 1) vs

unfoldable pub runs : List ℤ → List Run
runs [] = []
runs (v ∷ vs) = runs_from v 1 vs

-- "per run a signed varint and a length"
unfoldable pub run_bytes : List Run → List ℕ
run_bytes [] = []
run_bytes (r ∷ rs) = (varint_bytes r.key ++ uvarint_bytes r.times) ++ run_bytes rs

-- what writing stores after the header
unfoldable pub run_body : List ℤ → List ℕ
run_body column = uvarint_bytes (length (runs column)) ++ run_bytes (runs column)

-- ---- reading

-- A walk from `at` on: `n` runs are still to come, and `left` values. "length at most what is left? 15; both just after that varint. Lengths sum to
-- count? 16, at 0."
unfoldable pub validate_runs : List ℕ → ℕ → ℕ → ℕ → Option ℕ → Outcome Extent
validate_runs s at zero left padded = do
  _ ← check (eqb left 0) 16 0
  ok (record { end = at; padded = padded })
validate_runs s at (suc n) left padded = do
  key ← read_uvarint s at
  times ← read_uvarint s key.next
  _ ← check (leb times.value left) 15 times.next
  validate_runs s times.next n (left - times.value) (first_padded (first_padded padded at key.unpadded) key.next times.unpadded)

-- reading, from the body's start on: "Runs at most count? 14; .. both just after that varint."
unfoldable pub validate_run_length : List ℕ → ℕ → ℕ → Option ℕ → Outcome Extent
validate_run_length s start count padded = do
  n ← read_uvarint s start
  _ ← check (leb n.value count) 14 n.next
  validate_runs s n.next n.value count (first_padded padded start n.unpadded)

-- the values of n runs that were read: a walk from `at` on
unfoldable pub run_values : List ℕ → ℕ → ℕ → List ℤ
run_values s at zero = []
run_values s at (suc n) =
    let key = uvarint_at s at in
    let times = uvarint_at s key.next in
    replicate times.value (unzigzag key.value) ++ run_values s times.next n

-- the values of a body that was read
unfoldable pub run_length_values : List ℕ → ℕ → List ℤ
run_length_values s start = let n = uvarint_at s start in run_values s n.next n.value
