-- The record of a column, field by field: the pass gives them by format's definitions, and the spans and the sortedness are made of what it gives. The empty
-- column has that of a refused call.
use mathlib.Core.Path.{◌≡◌, refl}
use mathlib.Core.List.{List, [], ◌∷◌}
use Prim.Native.Nat.{ℕ}
use native.Mathlib.Omega.{arith}
use lib.IntN.{ℤ, pos}
use lib.ListN.{length, get_or}
use Rattle.format.specs.Keys.{gap}
use Rattle.format.specs.Folds.{least, greatest, largest, total, deltas}
use Rattle.format.specs.Runs.{runs}
use Rattle.format.specs.Distinct.{distinct_from, distinct, too_many_distinct}
use Rattle.format.specs.Statistics.{sortedness_from, sortedness_of, cardinality_of, stats_of, refused_stats}
use Rattle.format.specs.declared.Cardinality.{Cardinality}
use Rattle.format.specs.declared.Sortedness.{Sortedness}
use Rattle.stats.specs.Pass.{never_falls, never_rises, pass_of}
use Rattle.stats.specs.declared.pass.Pass.{Pass}

-- the empty column
pub stats-none : (column : List ℤ) → length column ≡ 0 → refused_stats ≡ stats_of column
unfolding refused_stats stats_of least greatest gap runs sortedness_of cardinality_of too_many_distinct distinct distinct_from largest total deltas
stats-none [] e = refl
stats-none (v ∷ vs) e = absurd (omega arith)

-- any other
pub stats-made : (column : List ℤ) (p : Pass) {cardinality : Cardinality} {sortedness : Sortedness} {span delta-span : ℕ} → (length column ≡ 0 → ⊥)
    → p ≡ pass_of column → cardinality ≡ cardinality_of column → sortedness ≡ sortedness_from p.steps.ascending p.steps.descending
    → span ≡ gap p.values.low p.values.high → delta-span ≡ gap p.steps.low p.steps.high
    → record {
      count = length column;
      first = get_or column 0 (pos 0);
      min = p.values.low;
      max = p.values.high;
      run_count = p.run_count;
      sortedness = sortedness;
      cardinality = cardinality;
      value_span = span;
      max_zigzag = p.values.largest;
      varint_body_bytes = p.values.bytes;
      run_length_body_bytes = p.run_bytes;
      delta_min = p.steps.low;
      delta_max = p.steps.high;
      delta_span = delta-span;
    }
    ≡ stats_of column
unfolding stats_of sortedness_of pass_of never_falls never_rises
stats-made [] p some e c o s d = absurd (some refl)
stats-made (v ∷ vs) p some e c o s d = rw (o, s, d, c, e)
