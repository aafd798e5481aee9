-- Each field of the pass is a fold: from what is held, the fold over what is still to come is the fold over the column. The definitions take a value more as
-- the code does, so that a step is a clause of theirs, and at the end nothing is to come.
use mathlib.Core.Path.{◌≡◌, refl, ap, ◌∙◌}
use mathlib.Core.Bool.{Bool, true, false, cond, ◌&&◌, and_assoc, and-true}
use mathlib.Core.List.{List, [], ◌∷◌, ◌++◌, map}
use Prim.Native.Nat.{◌+◌, ◌≤◌, ◌<◌, max}
use native.Mathlib.Nat.{add-zero, max-zero}
use native.Mathlib.Omega.{arith}
use lib.IntN.{ℤ, pos}
use lib.ListN.{length, get_or}
use lib.Signed.{le_z}
use Rattle.format.specs.Keys.{eq_z, delta, zigzag}
use Rattle.format.specs.Varint.{uvarint_len, varint_len}
use Rattle.format.specs.Folds.{least_from, least, greatest_from, greatest, largest, total, deltas_from, deltas}
use Rattle.format.specs.Runs.{runs_from, runs}
use Rattle.format.specs.Statistics.{non_decreasing, non_increasing, run_len}
use Rattle.format.proofs.Numbers.Order.{eq_z-true, lesser-same, greater-same}
use Rattle.stats.specs.Pass.{measured, first_values, next_values, next_runs, first_delta, first_steps, next_steps, never_falls, never_rises, pass_of}
use Rattle.stats.specs.declared.pass.Values.{Values}
use Rattle.stats.specs.declared.pass.Runs.{Runs}
use Rattle.stats.specs.declared.pass.Steps.{Steps}

-- ---- values

pub record ValuesTo (column rest : List ℤ) (s : Values) : Type 0 where
  pub low : least_from s.low rest ≡ least column
  pub high : greatest_from s.high rest ≡ greatest column
  pub most : max s.largest (largest (map zigzag rest)) ≡ largest (map zigzag column)
  pub bytes : s.bytes + total (map varint_len rest) ≡ total (map varint_len column)

pub values-first : (v : ℤ) (vs : List ℤ) → ValuesTo (v ∷ vs) vs (first_values (measured v))
unfolding least greatest largest total
values-first v vs = record { low = refl; high = refl; most = refl; bytes = refl }

module _ {column : List ℤ} {s : Values} where
  pub values-next : {v : ℤ} {vs : List ℤ} → ValuesTo column (v ∷ vs) s → ValuesTo column vs (next_values s (measured v))
  unfolding least_from greatest_from largest total
  values-next k = record { low = k.low; high = k.high; most = omega (arith, k.most); bytes = omega (arith, k.bytes) }

  pub values-done : ValuesTo column [] s → s ≡ (pass_of column).values
  unfolding least_from greatest_from largest total pass_of
  values-done k = rw (← k.low, ← k.high, ← k.most, ← k.bytes, max-zero, add-zero)

-- ---- runs, which are counted and whose keys are measured as they begin; their lengths are measured as they end

pub record RunsTo (column : List ℤ) (last : ℤ) (rest : List ℤ) (r : Runs) : Type 0 where
  pub count : r.count + length (runs_from last r.length rest) ≡ length (runs column) + 1
  pub bytes : r.bytes + total (map run_len (runs_from last r.length rest)) ≡ total (map run_len (runs column)) + varint_len last

pub runs-first : (v : ℤ) (vs : List ℤ) → RunsTo (v ∷ vs) v vs (record { count = 1; bytes = varint_len v; length = 1 })
unfolding runs
runs-first v vs = record { count = omega arith; bytes = omega arith }

module _ {column : List ℤ} {last : ℤ} {r : Runs} where
  pub runs-next : {v : ℤ} {vs : List ℤ} → RunsTo column last (v ∷ vs) r → RunsTo column v vs (next_runs r last (measured v))
  unfolding runs_from total run_len
  runs-next {v} {vs} k = go (eq_z last v) refl k.count k.bytes
    where
      go : (t : Bool) → eq_z last v ≡ t
          → r.count + length (cond t [] (record { key = last; times = r.length } ∷ []) ++ runs_from v (cond t (r.length + 1) 1) vs) ≡ length (runs column) + 1
          → r.bytes + total (map run_len (cond t [] (record { key = last; times = r.length } ∷ []) ++ runs_from v (cond t (r.length + 1) 1) vs))
          ≡ total (map run_len (runs column)) + varint_len last
          → RunsTo column v vs
          (cond t (record { count = r.count; bytes = r.bytes; length = r.length + 1 })
          (record { count = r.count + 1; bytes = r.bytes + uvarint_len r.length + varint_len v; length = 1 }))
      go true e c b = record { count = c; bytes = omega (arith, b, ap varint_len (eq_z-true last v e)) }
      go false e c b = record { count = omega (arith, c); bytes = omega (arith, b) }

  pub runs_done : RunsTo column last [] r → (r.count ≡ length (runs column)) × (r.bytes + uvarint_len r.length ≡ total (map run_len (runs column)))
  unfolding runs_from total run_len
  runs_done k = (omega (arith, k.count), omega (arith, k.bytes))

-- ---- steps

pub record StepsTo (column : List ℤ) (last : ℤ) (rest : List ℤ) (s : Steps) : Type 0 where
  pub ascending : (s.ascending && non_decreasing last rest) ≡ never_falls column
  pub descending : (s.descending && non_increasing last rest) ≡ never_rises column
  pub low : least_from s.low (deltas_from last rest) ≡ least (deltas column)
  pub high : greatest_from s.high (deltas_from last rest) ≡ greatest (deltas column)

-- the first delta is there from the second value on
pub delta-none : (column : List ℤ) → length column < 2 → pos 0 ≡ first_delta column
unfolding first_delta deltas deltas_from
delta-none [] h = refl
delta-none (v ∷ []) h = refl
delta-none (v ∷ w ∷ ws) h = absurd (omega arith)

pub delta-first : (column : List ℤ) → 2 ≤ length column → delta (get_or column 0 (pos 0)) (get_or column 1 (pos 0)) ≡ first_delta column
unfolding first_delta deltas deltas_from
delta-first [] h = absurd (omega arith)
delta-first (v ∷ []) h = absurd (omega arith)
delta-first (v ∷ w ∷ ws) h = refl

-- it may be taken twice
pub steps_first : (v : ℤ) (vs : List ℤ) → StepsTo (v ∷ vs) v vs (first_steps (first_delta (v ∷ vs)))
unfolding never_falls never_rises first_delta deltas deltas_from least_from least greatest_from greatest
steps_first v [] = record { ascending = refl; descending = refl; low = refl; high = refl }
steps_first v (w ∷ ws) =
    let d = delta v w in
    record {
      ascending = refl;
      descending = refl;
      low = ap (λ (m : ℤ). least_from m (deltas_from w ws)) (lesser-same d);
      high = ap (λ (m : ℤ). greatest_from m (deltas_from w ws)) (greater-same d);
    }

module _ {column : List ℤ} {last : ℤ} {s : Steps} where
  pub steps_next : {v : ℤ} {vs : List ℤ} → StepsTo column last (v ∷ vs) s → StepsTo column v vs (next_steps s last v)
  unfolding non_decreasing non_increasing deltas_from least_from greatest_from
  steps_next {v} {vs} k =
      record {
        ascending = and_assoc s.ascending (le_z last v) (non_decreasing v vs) ∙ k.ascending;
        descending = and_assoc s.descending (le_z v last) (non_increasing v vs) ∙ k.descending;
        low = k.low;
        high = k.high;
      }

  pub steps-done : StepsTo column last [] s → s ≡ (pass_of column).steps
  unfolding non_decreasing non_increasing deltas_from least_from greatest_from pass_of
  steps-done k = rw (← k.low, ← k.high, ← k.ascending, ← k.descending, and-true s.ascending, and-true s.descending)
