-- RunLength: what was written is read back. The runs of a column, written out, are the column, so their lengths sum to its count and there are no more of them
-- than values: questions 14, 15 and 16 pass. Each run's two varints are read where they occur.
use mathlib.Core.Path.{◌≡◌, refl, sym, ap, ◌∙◌}
use mathlib.Core.Bool.{Bool, true, false, cond}
use Prim.Native.Nat.{ℕ, suc, ◌+◌, ◌-◌, ◌^◌, ◌≤◌, ◌<◌}
use native.Mathlib.Nat.{add_assoc, add-zero, le_refl}
use native.Mathlib.Omega.{arith}
use mathlib.Core.List.{List, [], ◌∷◌, ◌++◌, append_assoc}
use lib.IntN.{ℤ}
use lib.ListN.{length, replicate, length-append, length-replicate, replicate-append-replicate}
use borrow.Author.Tests.{le-leb}
use Rattle.format.specs.Outcome.{ok}
use Rattle.format.specs.Encodings.{max_chunk_elements}
use Rattle.format.specs.Keys.{eq_z, zigzag, unzigzag, Key}
use Rattle.format.specs.Varint.{Uvarint, uvarint_bytes, varint_bytes, uvarint_at}
use Rattle.format.specs.Runs.{Run, runs, runs_from, run_bytes, run_body, validate_runs, validate_run_length, run_values, run_length_values}
use Rattle.format.proofs.Numbers.UvarintRows.{first_padded-unpadded}
use Rattle.format.proofs.Numbers.Keys.{unzigzag-zigzag, zigzag-lt}
use Rattle.format.proofs.Numbers.All.{All, all_none, all_more}
use Rattle.format.proofs.Numbers.Occurs.{Occurs, occurs-first, occurs-next, occurs-at}
use Rattle.format.proofs.Numbers.Uvarints.{read_uvarint-back, uvarint_at-back}
use Rattle.format.proofs.Numbers.Order.{eq_z-true}
use Rattle.std.specs.Prelude.{Option}

-- ---- the runs of a column

-- the values of some runs, and how many they are
unfoldable pub expanded : List Run → List ℤ
expanded [] = []
expanded (r ∷ rs) = replicate r.times r.key ++ expanded rs

unfoldable pub times_in : List Run → ℕ
times_in [] = 0
times_in (r ∷ rs) = r.times + times_in rs

-- the values are so many as the times
pub length-expanded : (rs : List Run) → length (expanded rs) ≡ times_in rs
unfolding expanded times_in
length-expanded [] = refl
length-expanded (r ∷ rs) = simp (length-append, length-replicate, length-expanded rs)

-- one value more of a run
replicate_more : (n : ℕ) (v : ℤ) (vs : List ℤ) → replicate (n + 1) v ++ vs ≡ replicate n v ++ (v ∷ vs)
replicate_more n v vs = ap (λ (l : List ℤ). l ++ vs) (sym (replicate-append-replicate n 1 v)) ∙ append_assoc (replicate n v) (v ∷ []) vs

-- a step of the walk: the same value once more, or another
expanded-step : (key v : ℤ) (times : ℕ) (vs : List ℤ) → ((n : ℕ) → expanded (runs_from v n vs) ≡ replicate n v ++ vs) → (t : Bool) → eq_z key v ≡ t
    → expanded (cond t [] (record { key = key; times = times } ∷ []) ++ runs_from v (cond t (times + 1) 1) vs) ≡ replicate times key ++ (v ∷ vs)
unfolding expanded
expanded-step key v times vs ih true e = rw (eq_z-true key v e) (ih (times + 1) ∙ replicate_more times v vs)
expanded-step key v times vs ih false e = ap (λ (l : List ℤ). replicate times key ++ l) (ih 1)

-- the runs of a column are the column
expanded-from : (key : ℤ) (times : ℕ) (vs : List ℤ) → expanded (runs_from key times vs) ≡ replicate times key ++ vs
unfolding expanded runs_from
expanded-from key times [] = refl
expanded-from key times (v ∷ vs) = expanded-step key v times vs (λ n. expanded-from v n vs) (eq_z key v) refl

pub expanded-runs : (column : List ℤ) → expanded (runs column) ≡ column
unfolding runs expanded
expanded-runs [] = refl
expanded-runs (v ∷ vs) = expanded-from v 1 vs

-- their lengths sum to the column's
pub times-runs : (column : List ℤ) → times_in (runs column) ≡ length column
times-runs column = sym (length-expanded (runs column)) ∙ ap length (expanded-runs column)

-- there are at most so many as values
count-step : (key v : ℤ) (times : ℕ) (vs : List ℤ) → ((n : ℕ) → length (runs_from v n vs) ≤ suc (length vs)) → (t : Bool)
    → length (cond t [] (record { key = key; times = times } ∷ []) ++ runs_from v (cond t (times + 1) 1) vs) ≤ suc (suc (length vs))
count-step key v times vs ih true = omega (arith, ih (times + 1))
count-step key v times vs ih false = omega (arith, ih 1)

count-from : (key : ℤ) (times : ℕ) (vs : List ℤ) → length (runs_from key times vs) ≤ suc (length vs)
unfolding runs_from
count-from key times [] = le_refl 1
count-from key times (v ∷ vs) = count-step key v times vs (λ n. count-from v n vs) (eq_z key v)

pub length_runs : (column : List ℤ) → length (runs column) ≤ length column
unfolding runs
length_runs [] = le_refl 0
length_runs (v ∷ vs) = count-from v 1 vs

-- "longest possible": no run is empty, no two neighbours have the same value, and the first has the value `key`
pub data LongestFrom : ℤ → List Run → Type 0 where
  last-run : {key : ℤ} {times : ℕ} → 1 ≤ times → LongestFrom key (record { key = key; times = times } ∷ [])
  next-run : {key : ℤ} {times : ℕ} {other : ℤ} {rs : List Run} → 1 ≤ times → eq_z key other ≡ false → LongestFrom other rs
      → LongestFrom key (record { key = key; times = times } ∷ rs)

longest-step :
    (key v : ℤ) (times : ℕ) (vs : List ℤ) → 1 ≤ times → ((n : ℕ) → 1 ≤ n → LongestFrom v (runs_from v n vs)) → (t : Bool) → eq_z key v ≡ t
    → LongestFrom key (cond t [] (record { key = key; times = times } ∷ []) ++ runs_from v (cond t (times + 1) 1) vs)
longest-step key v times vs some ih true e = rw (eq_z-true key v e) (ih (times + 1) (omega arith))
longest-step key v times vs some ih false e = next-run some e (ih 1 (le_refl 1))

longest-from : (key : ℤ) (times : ℕ) (vs : List ℤ) → 1 ≤ times → LongestFrom key (runs_from key times vs)
unfolding runs_from
longest-from key times [] some = last-run some
longest-from key times (v ∷ vs) some = longest-step key v times vs some (λ n. longest-from v n vs) (eq_z key v) refl

-- the runs of a column are so
pub runs-longest : (v : ℤ) (vs : List ℤ) → LongestFrom v (runs (v ∷ vs))
unfolding runs
runs-longest v vs = longest-from v 1 vs (le_refl 1)

-- a run of a key that is not too long for a varint
pub record RunFits (r : Run) : Type 0 where
  pub key : Key r.key
  pub small : r.times < 2 ^ 64

-- their values are keys
keys_step : (v : ℤ) (vs : List ℤ) (key : ℤ) (times : ℕ) → Key key → ((n : ℕ) → All (λ (r : Run). Key r.key) (runs_from v n vs)) → (t : Bool)
    → All (λ (r : Run). Key r.key) (cond t [] (record { key = key; times = times } ∷ []) ++ runs_from v (cond t (times + 1) 1) vs)
keys_step v vs key times k ih true = ih (times + 1)
keys_step v vs key times k ih false = all_more k (ih 1)

keys_from : {vs : List ℤ} (key : ℤ) (times : ℕ) → Key key → All Key vs → All (λ (r : Run). Key r.key) (runs_from key times vs)
unfolding runs_from
keys_from key times k all_none = all_more k all_none
keys_from key times k (all_more {x} {xs} p r) = keys_step x xs key times k (λ n. keys_from x n p r) (eq_z key x)

keys-runs : {column : List ℤ} → All Key column → All (λ (r : Run). Key r.key) (runs column)
unfolding runs
keys-runs all_none = all_none
keys-runs (all_more {x} p r) = keys_from x 1 p r

-- runs that are not too many in all fit varints
runs-small : {rs : List Run} → All (λ (r : Run). Key r.key) rs → times_in rs < 2 ^ 64 → All RunFits rs
unfolding times_in
runs-small all_none h = all_none
runs-small (all_more {x} {xs} k r) h = all_more {x = x} (record { key = k; small = omega arith }) (runs-small r (omega arith))

-- the runs of a column fit varints
pub runs_fit : {column : List ℤ} → All Key column → length column ≤ max_chunk_elements → All RunFits (runs column)
runs_fit {column} ks n = runs-small (keys-runs ks) (omega (arith, times-runs column))

-- ---- reading

-- runs that occur at a place: their end,
pub runs-validate :
    {s : List ℕ} {at : ℕ} {rs : List Run} (padded : Option ℕ) → All RunFits rs → Occurs s at (run_bytes rs)
    → validate_runs s at (length rs) (times_in rs) padded ≡ ok (record { end = at + length (run_bytes rs); padded = padded })
unfolding validate_runs run_bytes times_in varint_bytes
runs-validate {at} padded all_none h = ap (λ (n : ℕ). ok (record { end = n; padded = padded })) (sym (add-zero at))
runs-validate {s} {at} padded (all_more {x} {xs} f fs) h =
    let a : List ℕ = uvarint_bytes (zigzag x.key) in
    let b : List ℕ = uvarint_bytes x.times in
    let e : at + length (a ++ b) ≡ at + length a + length b = omega (arith, length-append a b) in
    let ab : Occurs s at (a ++ b) = occurs-first (a ++ b) (run_bytes xs) h in
    let m : x.times + times_in xs - x.times ≡ times_in xs = omega arith in
    rw (
      read_uvarint-back (zigzag x.key) (zigzag-lt x.key f.key) (occurs-first a b ab),
      read_uvarint-back x.times f.small (occurs-next a b ab),
      le-leb x.times (x.times + times_in xs) (omega arith),
      m,
      first_padded-unpadded padded at,
      first_padded-unpadded padded (at + length a),
      length-append (a ++ b) (run_bytes xs),
      ← add_assoc,
      ← e,
    )
    (runs-validate {at = at + length (a ++ b)} padded fs (occurs-next (a ++ b) (run_bytes xs) h))

-- and their values
pub runs-back : {s : List ℕ} {at : ℕ} {rs : List Run} → All RunFits rs → Occurs s at (run_bytes rs) → run_values s at (length rs) ≡ expanded rs
unfolding run_values run_bytes expanded varint_bytes
runs-back all_none h = refl
runs-back {s} {at} (all_more {x} {xs} f fs) h =
    let a : List ℕ = uvarint_bytes (zigzag x.key) in
    let b : List ℕ = uvarint_bytes x.times in
    let e : at + length (a ++ b) ≡ at + length a + length b = omega (arith, length-append a b) in
    let ab : Occurs s at (a ++ b) = occurs-first (a ++ b) (run_bytes xs) h in
    ap (λ (k : Uvarint). replicate (uvarint_at s k.next).value (unzigzag k.value) ++ run_values s (uvarint_at s k.next).next (length xs))
    (uvarint_at-back (zigzag x.key) (zigzag-lt x.key f.key) (occurs-first a b ab))
    ∙ ap (λ (t : Uvarint). replicate t.value (unzigzag (zigzag x.key)) ++ run_values s t.next (length xs))
    (uvarint_at-back x.times f.small (occurs-next a b ab))
    ∙ rw (unzigzag-zigzag x.key) (ap (λ (l : List ℤ). replicate x.times x.key ++ l) (runs-back {at = at + length a + length b} fs (occurs-at e (occurs-next (a ++ b) (run_bytes xs) h))))

module _ {s : List ℕ} {at : ℕ} {column : List ℤ} (ks : All Key column) (few : length column ≤ max_chunk_elements) where
  -- RunLength: the end of a body that occurs at a place,
  pub run_length-validate :
      Occurs s at (run_body column) → (padded : Option ℕ)
      → validate_run_length s at (length column) padded ≡ ok (record { end = at + length (run_body column); padded = padded })
  unfolding validate_run_length run_body
  run_length-validate h padded =
      let a : List ℕ = uvarint_bytes (length (runs column)) in
      rw (
        read_uvarint-back (length (runs column)) (omega (arith, length_runs column)) (occurs-first a (run_bytes (runs column)) h),
        le-leb (length (runs column)) (length column) (length_runs column),
        first_padded-unpadded padded at,
        ← times-runs column,
        length-append a (run_bytes (runs column)),
        ← add_assoc,
      )
      (runs-validate padded (runs_fit ks few) (occurs-next a (run_bytes (runs column)) h))

  -- and its values
  pub run_length-back : Occurs s at (run_body column) → run_length_values s at ≡ column
  unfolding run_length_values run_body
  run_length-back h =
      let a : List ℕ = uvarint_bytes (length (runs column)) in
      ap (λ (n : Uvarint). run_values s n.next n.value)
      (uvarint_at-back (length (runs column)) (omega (arith, length_runs column)) (occurs-first a (run_bytes (runs column)) h))
      ∙ runs-back (runs_fit ks few) (occurs-next a (run_bytes (runs column)) h)
      ∙ expanded-runs column
