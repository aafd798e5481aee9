-- The plan of a column. Its reason is one of five cases (`ReasonCase`), and the encoding follows from the reason; so a claim about plans is shown case by case.
-- Where the best candidate was taken its length is the least; where Plain was taken for too little gain no available length meets the test, since the best
-- one does not and the test is monotone.
use mathlib.Core.Path.{◌≡◌, refl, ap}
use mathlib.Core.Logic.{◌≢◌}
use Prim.Native.Nat.{ℕ, ◌≤◌, ◌<◌}
use native.Mathlib.Nat.{le_refl}
use native.Mathlib.Omega.{arith}
use mathlib.Core.Bool.{Bool, true, false, not, cond, ◌&&◌}
use mathlib.Core.List.{List}
use borrow.Author.Tests.{eqb-true, eqb-false}
use lib.IntN.{ℤ}
use lib.Dec.{eqb}
use lib.ListN.{length}
use Rattle.format.specs.Encodings.{id_of}
use Rattle.format.specs.Statistics.{stats_of}
use Rattle.format.specs.Estimates.{estimates_of, length_in, available_in}
use Rattle.format.specs.Plan.{best, meets_gain, reason_of, encoding_for, plan_from, plan_of}
use Rattle.format.specs.declared.encoding.Encoding.{Encoding}
use Rattle.format.specs.declared.encoding.Encoding.TheVariants.{Plain}
use Rattle.format.specs.declared.PlanReason.{PlanReason}
use Rattle.format.specs.declared.PlanReason.TheVariants.{Empty, CompressionDisabled, SmallestEstimate, GainBelowThreshold}
use Rattle.format.specs.declared.SizeEstimates.{SizeEstimates}
use Rattle.format.proofs.Codecs.Encodings.{id_same}
use Rattle.format.proofs.Lengths.Estimates.{plain-available, plain-estimate}
use Rattle.format.proofs.Lengths.Limits.{estimate-header}
use Rattle.format.proofs.Plan.Gain.{gain-mono}
use Rattle.format.proofs.Plan.Best.{Best, best-is, best-least}

-- ---- the reason

-- what each reason says, b being the best candidate
pub data ReasonCase (level count : ℕ) (es : SizeEstimates) (b : Encoding) : PlanReason → Type 0 where
  no-values : count ≡ 0 → ReasonCase level count es b Empty
  level-0 : 0 < count → level ≡ 0 → ReasonCase level count es b CompressionDisabled
  best-is-plain : 0 < count → 0 < level → b ≡ Plain → ReasonCase level count es b SmallestEstimate
  gain-met : 0 < count → 0 < level → b ≢ Plain → meets_gain level (length_in es Plain) (length_in es b) ≡ true → ReasonCase level count es b SmallestEstimate
  gain-not-met :
      0 < count → 0 < level → b ≢ Plain → meets_gain level (length_in es Plain) (length_in es b) ≡ false → ReasonCase level count es b GainBelowThreshold

-- every reason is one of these cases: by the four tests in their order
reason_of-case : (level count : ℕ) (es : SizeEstimates) (b : Encoding) → ReasonCase level count es b (reason_of level count es b)
unfolding reason_of
reason_of-case level count es b = go (eqb count 0) (eqb level 0) (eqb (id_of b) 1) (meets_gain level (length_in es Plain) (length_in es b)) refl refl refl refl
  where
    some : (n : ℕ) → eqb n 0 ≡ false → 0 < n
    some n h = let other : n ≡ 0 → ⊥ = eqb-false n 0 h in omega arith

    go : (c l p t : Bool) → eqb count 0 ≡ c → eqb level 0 ≡ l → eqb (id_of b) 1 ≡ p → meets_gain level (length_in es Plain) (length_in es b) ≡ t
        → ReasonCase level count es b (cond c Empty (cond l CompressionDisabled (cond (not p && not t) GainBelowThreshold SmallestEstimate)))
    go true l p t hc hl hp ht = no-values (eqb-true count 0 hc)
    go false true p t hc hl hp ht = level-0 (some count hc) (eqb-true level 0 hl)
    go false false true t hc hl hp ht = best-is-plain (some count hc) (some level hl) (id_same b Plain (eqb-true (id_of b) 1 hp))
    go false false false true hc hl hp ht = gain-met (some count hc) (some level hl) (λ (q : b ≡ Plain). eqb-false (id_of b) 1 hp (ap id_of q)) ht
    go false false false false hc hl hp ht = gain-not-met (some count hc) (some level hl) (λ (q : b ≡ Plain). eqb-false (id_of b) 1 hp (ap id_of q)) ht

-- ---- the fields of a plan: by computing

-- a column's best candidate
abbrev pub best_of : List ℤ → Encoding
best_of column = best (estimates_of column)

-- its length,
abbrev pub shortest_length : List ℤ → ℕ
shortest_length column = length_in (estimates_of column) (best_of column)

-- and Plain's
abbrev pub plain_length : List ℤ → ℕ
plain_length column = length_in (estimates_of column) Plain

-- the estimates are the column's
pub plan-estimates : (level : ℕ) (column : List ℤ) → (plan_of level column).estimates ≡ estimates_of column
unfolding plan_of plan_from estimates_of
plan-estimates level column = refl

-- the reason, by the best candidate
pub plan-reason : (level : ℕ) (column : List ℤ) → (plan_of level column).reason ≡ reason_of level (length column) (estimates_of column) (best_of column)
unfolding plan_of plan_from estimates_of stats_of
plan-reason level column = refl

-- the encoding, by the reason
pub plan-encoding : (level : ℕ) (column : List ℤ) → (plan_of level column).encoding ≡ encoding_for (plan_of level column).reason (best_of column)
unfolding plan_of plan_from estimates_of
plan-encoding level column = refl

-- the estimated bytes, by the encoding
pub plan-bytes : (level : ℕ) (column : List ℤ) → (plan_of level column).estimated_bytes ≡ length_in (estimates_of column) (plan_of level column).encoding
unfolding plan_of plan_from estimates_of
plan-bytes level column = refl

-- the plain bytes
pub plan-plain : (level : ℕ) (column : List ℤ) → (plan_of level column).plain_bytes ≡ plain_length column
unfolding plan_of plan_from estimates_of
plan-plain level column = refl

-- ---- the best candidate

-- `best_of` is the best, as Plain is available
pub best_of-best : (column : List ℤ) → Best (estimates_of column) (best_of column)
best_of-best column = best-is (estimates_of column) (plain-available column)

-- no available length is less
pub shortest_length-least :
    (column : List ℤ) (e : Encoding) → available_in (estimates_of column) e ≡ true → shortest_length column ≤ length_in (estimates_of column) e
shortest_length-least column e there = best-least (estimates_of column) (best_of column) (best_of-best column) e there

-- for the empty column no available length is less than Plain's, which is the header's
plain_length-least :
    (column : List ℤ) → length column ≡ 0 → (e : Encoding) → available_in (estimates_of column) e ≡ true
    → plain_length column ≤ length_in (estimates_of column) e
plain_length-least column none e there = rw plain-estimate (omega (arith, estimate-header column e there))

-- ---- what is planned

-- the case of a plan's reason
pub plan-case : (level : ℕ) (column : List ℤ) → ReasonCase level (length column) (estimates_of column) (best_of column) (plan_of level column).reason
plan-case level column = rw plan-reason (reason_of-case level (length column) (estimates_of column) (best_of column))

-- the encoding planned is available
pub plan-available : (level : ℕ) (column : List ℤ) → available_in (estimates_of column) (plan_of level column).encoding ≡ true
plan-available level column = rw plan-encoding (go (plan_of level column).reason)
  where
    go : (r : PlanReason) → available_in (estimates_of column) (encoding_for r (best_of column)) ≡ true
    go Empty = plain-available column
    go CompressionDisabled = plain-available column
    go SmallestEstimate = (best_of-best column).available
    go GainBelowThreshold = plain-available column

-- the estimate is at most the plain length
pub plan-not-above : (level : ℕ) (column : List ℤ) → (plan_of level column).estimated_bytes ≤ (plan_of level column).plain_bytes
plan-not-above level column = rw (plan-bytes, plan-plain, plan-encoding) (go (plan_of level column).reason)
  where
    go : (r : PlanReason) → length_in (estimates_of column) (encoding_for r (best_of column)) ≤ plain_length column
    go Empty = le_refl _
    go CompressionDisabled = le_refl _
    go SmallestEstimate = shortest_length-least column Plain (plain-available column)
    go GainBelowThreshold = le_refl _

-- at levels 1 to 9, save where Plain was taken for too little gain, no available length is less than the estimate
pub plan-smallest :
    (level : ℕ) (column : List ℤ) → 1 ≤ level → (plan_of level column).reason ≢ GainBelowThreshold
    → (e : Encoding) → available_in (estimates_of column) e ≡ true → (plan_of level column).estimated_bytes ≤ length_in (estimates_of column) e
plan-smallest level column h gain e there = rw (plan-bytes, plan-encoding) (go (plan_of level column).reason (plan-case level column) gain)
  where
    go : (r : PlanReason) → ReasonCase level (length column) (estimates_of column) (best_of column) r → r ≢ GainBelowThreshold
        → length_in (estimates_of column) (encoding_for r (best_of column)) ≤ length_in (estimates_of column) e
    go Empty (no-values none) other = plain_length-least column none e there
    go CompressionDisabled (level-0 c zero) other = absurd (omega arith)
    go SmallestEstimate (best-is-plain c l p) other = shortest_length-least column e there
    go SmallestEstimate (gain-met c l p m) other = shortest_length-least column e there
    go GainBelowThreshold (gain-not-met c l p m) other = absurd (other refl)

-- where Plain was taken for too little gain, another candidate is the best, and does not meet the test
pub plan-gain-not-met :
    (level : ℕ) (column : List ℤ) → (plan_of level column).reason ≡ GainBelowThreshold
    → (best_of column ≢ Plain) × (meets_gain level (plain_length column) (shortest_length column) ≡ false)
plan-gain-not-met level column little = go (rw little at (plan-case level column))
  where
    go : ReasonCase level (length column) (estimates_of column) (best_of column) GainBelowThreshold
        → (best_of column ≢ Plain) × (meets_gain level (plain_length column) (shortest_length column) ≡ false)
    go (gain-not-met c l p m) = (p, m)

-- so no available candidate meets it
pub plan-no-gain :
    (level : ℕ) (column : List ℤ) → (plan_of level column).reason ≡ GainBelowThreshold
    → (e : Encoding) → available_in (estimates_of column) e ≡ true → meets_gain level (plain_length column) (length_in (estimates_of column) e) ≡ false
plan-no-gain level column little e there =
    gain-mono level (plain_length column) (shortest_length column) (length_in (estimates_of column) e)
    (shortest_length-least column e there) (plan-gain-not-met level column little).1
