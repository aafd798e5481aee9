-- A survey, by the answer of the call for statistics. Where that is refused, so is the one for estimates. Where it is accepted the record is the column's, whose
-- numbers are within the limits, and the scratch's front holds the entries: all distinct values, or the first met where there are too many for a dictionary, which
-- is then not available, whatever its entries. So the estimates of the two are the column's.
use mathlib.Core.Path.{◌≡◌, refl, ap}
use mathlib.Core.Bool.{Bool, true, false}
use mathlib.Core.List.{List}
use Prim.Native.Nat.{ℕ, ◌≤◌}
use native.Mathlib.Omega.{arith}
use borrow.Author.Tests.{leb-true}
use lib.IntN.{ℤ}
use lib.Dec.{leb}
use lib.ListN.{length, take, length-take}
use Rattle.format.specs.Outcome.{Outcome, refused, ok, check}
use Rattle.format.specs.Encodings.{max_chunk_elements, max_dictionary_cardinality}
use Rattle.format.specs.Distinct.{too_many_distinct, capped_distinct, collected}
use Rattle.format.specs.Statistics.{StatsAnswer, refused_stats}
use Rattle.format.specs.Statistics.{cardinality_of, stats_of, analysis_checks, stats_after_checks, stats_answer, analysis_scratch, distinct_values}
use Rattle.format.specs.Estimates.{EstimatesAnswer, is_exact, estimates_from, estimates_of, refused_estimates, estimates_after_checks, estimates_answer}
use Rattle.format.specs.declared.IntegerStats.{IntegerStats}
use Rattle.format.specs.declared.SizeEstimates.{SizeEstimates}
use Rattle.format.proofs.Codecs.Outcome.{both-passed, check-passed}
use Rattle.format.proofs.Lengths.Limits.{total-varint_len-most, total-run_len-most}
use Rattle.format.proofs.Numbers.Distinct.{few-distinct, capped_distinct-all, capped_distinct-most, distinct_values-all}
use Rattle.format.proofs.Plan.Checks.{take-stored}
use Rattle.estimates.specs.Sizes.{Within}

-- the numbers of the record
within-limits : (column : List ℤ) → length column ≤ max_chunk_elements → Within (stats_of column)
unfolding stats_of
within-limits column few =
    record { count = few; varints = omega (arith, total-varint_len-most column); runs = omega (arith, total-run_len-most column) }

-- without a dictionary the entries do not matter
any-entries : (r : IntegerStats) (xs ys : List ℤ) → is_exact r.cardinality ≡ false → estimates_from r xs ≡ estimates_from r ys
unfolding estimates_from
any-entries r xs ys h = rw h

too_many : (column : List ℤ) → too_many_distinct column ≡ true → is_exact (stats_of column).cardinality ≡ false
unfolding stats_of cardinality_of
too_many column e = rw e

-- so the values at the scratch's front serve as entries
capped-estimates : (column : List ℤ) → estimates_from (stats_of column) (capped_distinct column) ≡ estimates_of column
unfolding estimates_of
capped-estimates column = go (too_many_distinct column) refl
  where
    go : (t : Bool) → too_many_distinct column ≡ t → estimates_from (stats_of column) (capped_distinct column) ≡ estimates_from (stats_of column) (distinct_values column)
    go true e = any-entries (stats_of column) _ _ (too_many column e)
    go false e = let few = few-distinct column e in rw (capped_distinct-all column few, distinct_values-all column few)

-- ---- the two answers

-- a record, and n entries at the scratch's front, that the lengths can be made of
pub record Ready (r : IntegerStats) (after : List ℤ) (n : ℕ) : Type 0 where
  pub within : Within r
  pub there : n ≤ length after
  pub few : length (take n after) ≤ max_dictionary_cardinality

-- refused
pub survey_refused : (column : List ℤ) (room : ℕ) {number offset : ℕ}
    → ◌≡◌ {A = StatsAnswer} (record { answer = refused number offset; stats = refused_stats }) (stats_answer column room)
    → ◌≡◌ {A = EstimatesAnswer} (record { answer = refused number offset; estimates = refused_estimates }) (estimates_answer column room)
unfolding stats_answer estimates_answer
survey_refused column room {number} {offset} told = go (analysis_checks column room) (ap (λ (a : StatsAnswer). a.answer) told)
  where
    go : (o : Outcome (Unit {0})) → refused number offset ≡ (stats_after_checks o column).answer
        → ◌≡◌ {A = EstimatesAnswer} (record { answer = refused number offset; estimates = refused_estimates }) (estimates_after_checks o column)
    go (refused n k) h = rw h
    go (ok u) h = let z : ◌≡◌ {A = ℕ} 0 1 = cc in absurd (omega arith)

-- accepted
module _ (column scratch : List ℤ) {n : ℕ} {r : IntegerStats}
    (told : ◌≡◌ {A = StatsAnswer} (record { answer = ok n; stats = r }) (stats_answer column (length scratch))) where
  passed : analysis_checks column (length scratch) ≡ ok tt
  unfolding stats_answer
  passed = go (analysis_checks column (length scratch)) refl (ap (λ (a : StatsAnswer). a.answer) told)
    where
      go : (o : Outcome (Unit {0})) → analysis_checks column (length scratch) ≡ o → ok n ≡ (stats_after_checks o column).answer → analysis_checks column (length scratch) ≡ ok tt
      go (refused number offset) e h = let z : ◌≡◌ {A = ℕ} 0 1 = cc in absurd (omega arith)
      go (ok u) e h = e

  found-is : ◌≡◌ {A = StatsAnswer} (record { answer = ok n; stats = r }) (stats_after_checks (ok tt) column)
  unfolding stats_answer
  found-is = rw passed at told

  many : n ≡ length (capped_distinct column)
  many = let h : ok n ≡ ok (length (capped_distinct column)) = ap (λ (a : StatsAnswer). a.answer) found-is in cc

  same-record : r ≡ stats_of column
  same-record = ap (λ (a : StatsAnswer). a.stats) found-is

  record-within : Within r
  unfolding analysis_checks
  record-within =
      both-passed (check (leb (length column) max_chunk_elements) 21 0) _ passed λ _ size _.
      rw same-record (within-limits column (leb-true _ _ (check-passed _ 21 0 size)))

  -- the entries at the scratch's front
  module _ {after : List ℤ} (left : after ≡ analysis_scratch column scratch) where
    front : take n after ≡ capped_distinct column
    unfolding analysis_scratch collected
    front = rw (left, passed, many) (take-stored (capped_distinct column) scratch)

    pub survey_ready : Ready r after n
    survey_ready =
        record {
          within = record-within;
          there = omega (arith, many, ap length front, length-take n after);
          few = rw front (omega (arith, capped_distinct-most column));
        }

    pub survey_accepted : {estimates : SizeEstimates} → estimates ≡ estimates_from r (take n after)
        → ◌≡◌ {A = EstimatesAnswer} (record { answer = ok n; estimates = estimates }) (estimates_answer column (length scratch))
    unfolding estimates_answer
    survey_accepted e = rw (e, front, passed, same-record, many, capped-estimates column)
