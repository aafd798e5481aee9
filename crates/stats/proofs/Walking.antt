-- The pass over a column: what is held of the first i values and what is still to come are the whole (Folds). No value and no length has more than ten
-- bytes, so a column of up to 2^24 values makes no sum wrap.
use mathlib.Core.Path.{◌≡◌, ◌∙◌}
use mathlib.Core.Bool.{Bool, true, false, cond}
use mathlib.Core.List.{List, [], ◌∷◌}
use Prim.Native.Nat.{ℕ, ◌+◌, ◌*◌, ◌≤◌, ◌<◌}
use native.Mathlib.Numerals.{add-one}
use native.Mathlib.Omega.{arith}
use lib.IntN.{ℤ, pos}
use lib.ListN.{length, get_or, drop, drop_of_length-le}
use lib.Seq.{drop-cons}
use Rattle.format.specs.Keys.{eq_z}
use Rattle.format.specs.Varint.{uvarint_len}
use Rattle.format.proofs.Numbers.Keys.{varint_len-le}
use Rattle.format.proofs.Numbers.Widths.{uvarint_len_le}
use Rattle.stats.specs.Pass.{measured, first_values, next_values, first_runs, next_runs, first_delta, first_steps, next_steps, pass_of}
use Rattle.stats.specs.declared.pass.Measured.{Measured}
use Rattle.stats.specs.declared.pass.Values.{Values}
use Rattle.stats.specs.declared.pass.Runs.{Runs}
use Rattle.stats.specs.declared.pass.Steps.{Steps}
use Rattle.stats.proofs.Folds.{ValuesTo, values-first, values-next, values-done}
use Rattle.stats.proofs.Folds.{RunsTo, runs-first, runs-next, runs_done}
use Rattle.stats.proofs.Folds.{StepsTo, steps_first, steps_next, steps-done}

-- a varint has at most ten bytes
pub short : {m : Measured} {v : ℤ} → m ≡ measured v → m.bytes ≤ 10
short {m} {v} e = rw e (varint_len-le v)

-- what is held of i values is small
pub record Few (i : ℕ) (s : Values) (r : Runs) : Type 0 where
  pub bytes : s.bytes ≤ 10 * i
  pub count : r.count ≤ i
  pub run-bytes : r.bytes ≤ 20 * i
  pub length : r.length ≤ i

few-next : {i : ℕ} {s : Values} {r : Runs} (m : Measured) (last : ℤ) → m.bytes ≤ 10 → Few i s r → Few (i + 1) (next_values s m) (next_runs r last m)
few-next {i} {s} {r} m last h f = go (eq_z last m.value)
  where
    go : (t : Bool) → Few (i + 1) (next_values s m)
        (cond t (record { count = r.count; bytes = r.bytes; length = r.length + 1 })
        (record { count = r.count + 1; bytes = r.bytes + uvarint_len r.length + m.bytes; length = 1 }))
    go true = record { bytes = omega arith; count = omega arith; run-bytes = omega arith; length = omega arith }
    go false = record { bytes = omega arith; count = omega arith; run-bytes = omega (arith, uvarint_len_le r.length); length = omega arith }

-- the pass after i values, of which `last` is the last
pub record Walked (column : List ℤ) (i : ℕ) (last : ℤ) (s : Values) (r : Runs) (t : Steps) : Type 0 where
  pub within : i ≤ length column
  pub few : Few i s r
  pub values : ValuesTo column (drop i column) s
  pub runs : RunsTo column last (drop i column) r
  pub steps : StepsTo column last (drop i column) t

-- the first value
pub walked-first : (column : List ℤ) {last : ℤ} {m : Measured} {s : Values} {r : Runs} {t : Steps} {d : ℤ} → 0 < length column → last ≡ get_or column 0 (pos 0)
    → m ≡ measured last → d ≡ first_delta column → s ≡ first_values m → r ≡ first_runs m.bytes → t ≡ first_steps d → Walked column 1 last s r t
walked-first [] h e em ed es er et = absurd (omega arith)
walked-first (v ∷ vs) h e em ed es er et =
    rw (es, er, et, em, ed, e)
    (record {
      within = omega arith;
      few = record { bytes = omega (arith, varint_len-le v); count = omega arith; run-bytes = omega (arith, varint_len-le v); length = omega arith };
      values = values-first v vs;
      runs = runs-first v vs;
      steps = steps_first v vs;
    })

-- a value more
pub walked_next : {column : List ℤ} {i : ℕ} {last v : ℤ} {m : Measured} {s s₁ : Values} {r r₁ : Runs} {t t₁ : Steps} → Walked column i last s r t → i < length column
    → v ≡ get_or column i (pos 0) → m ≡ measured v → s₁ ≡ next_values s m → r₁ ≡ next_runs r last m → t₁ ≡ next_steps t last v → Walked column (i + 1) v s₁ r₁ t₁
walked_next {column} {i} {last} {v} k h e em es er et =
    let rest : drop i column ≡ v ∷ drop (i + 1) column = rw (e, add-one i) (drop-cons column i (pos 0) h) in
    rw (es, er, et, em)
    (record {
      within = omega arith;
      few = few-next (measured v) last (varint_len-le v) k.few;
      values = values-next (rw rest at k.values);
      runs = runs-next (rw rest at k.runs);
      steps = steps_next (rw rest at k.steps);
    })

-- the whole
pub walked-done : {column : List ℤ} {i : ℕ} {last : ℤ} {s : Values} {r : Runs} {t : Steps} {n : ℕ} → Walked column i last s r t → length column ≤ i
    → n ≡ r.bytes + uvarint_len r.length → record { values = s; run_count = r.count; run_bytes = n; steps = t } ≡ pass_of column
unfolding pass_of
walked-done {column} k h e =
    let none = drop_of_length-le column h in
    let runs-are = runs_done (rw none at k.runs) in
    rw (values-done (rw none at k.values), runs-are.0, e ∙ runs-are.1, steps-done (rw none at k.steps))
