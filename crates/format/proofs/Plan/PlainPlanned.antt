-- CR 13 at the plan, for every column of 1 to 2^24 values: "plain is kept exactly if 5 times the length exceeds 4 times plain at levels 1 to 3, 20 times
-- exceeds 19 times at 4 to 6, and 100 times exceeds 99 times at 7 to 9." The length is that of the best candidate. Where another than Plain is the best, the
-- plan takes Plain exactly if the test of gain is not met; where Plain is the best, it is taken, and its own length does not meet the test either.
use mathlib.Core.Path.{◌≡◌, refl, sym, ap, ◌∙◌, subst}
use mathlib.Core.Logic.{◌↔◌}
use Prim.Native.Nat.{ℕ, ◌*◌, ◌≤◌, ◌<◌}
use native.Mathlib.Nat.{le_trans, le_of_eq}
use native.Mathlib.Omega.{arith}
use mathlib.Core.Bool.{false}
use mathlib.Core.List.{List}
use lib.IntN.{ℤ}
use lib.Dec.{T}
use lib.ListN.{length}
use Rattle.format.specs.Encodings.{max_chunk_elements}
use Rattle.format.specs.Estimates.{estimates_of, length_in}
use Rattle.format.specs.Plan.{meets_gain, encoding_for, plan_of}
use Rattle.format.specs.declared.encoding.Encoding.TheVariants.{Plain}
use Rattle.format.specs.declared.PlanReason.{PlanReason}
use Rattle.format.specs.declared.PlanReason.TheVariants.{Empty, CompressionDisabled, SmallestEstimate, GainBelowThreshold}
use Rattle.format.proofs.Lengths.Estimates.{plain-available}
use Rattle.format.proofs.Lengths.Limits.{plain-some, plain-limit}
use Rattle.format.proofs.Plan.Gain.{LevelFraction, levels-1-3, levels-4-6, levels-7-9, level-positive, plain-no-gain, gain-at-level}
use Rattle.format.proofs.Plan.Plan.{ReasonCase, no-values, level-0, best-is-plain, gain-met, gain-not-met, best_of, shortest_length, plain_length, plan-encoding, shortest_length-least, plan-case}
use mathlib.Core.Logic.Iff

module _ (level : ℕ) (column : List ℤ) (some : 0 < length column) (size : length column ≤ max_chunk_elements) where
  -- at levels 1 to 9 Plain is planned exactly where the best candidate does not meet the test of gain
  pub plain-planned-test : 1 ≤ level → ((plan_of level column).encoding ≡ Plain) ↔ (meets_gain level (plain_length column) (shortest_length column) ≡ false)
  plain-planned-test positive = rw plan-encoding (go (plan_of level column).reason (plan-case level column))
    where
      own : best_of column ≡ Plain → meets_gain level (plain_length column) (shortest_length column) ≡ false
      own p =
          plain-no-gain level (plain_length column) (shortest_length column) (omega (arith, plain-some column some)) (plain-limit column size)
          (le_of_eq (ap (length_in (estimates_of column)) (sym p)))

      go : (r : PlanReason) → ReasonCase level (length column) (estimates_of column) (best_of column) r
          → (encoding_for r (best_of column) ≡ Plain) ↔ (meets_gain level (plain_length column) (shortest_length column) ≡ false)
      go Empty (no-values none) = absurd (omega arith)
      go CompressionDisabled (level-0 c zero) = absurd (omega arith)
      go SmallestEstimate (best-is-plain c l p) = (λ e. own p, λ h. p)
      go SmallestEstimate (gain-met c l p met) = (λ e. absurd (p e), λ h. absurd (subst T (sym met ∙ h) tt))
      go GainBelowThreshold (gain-not-met c l p not-met) = (λ e. not-met, λ h. refl)

  -- by the fraction p / q of the level: exactly where q times the length exceeds p times plain
  pub plain-planned : {p q : ℕ} → LevelFraction level p q → ((plan_of level column).encoding ≡ Plain) ↔ (p * plain_length column < q * shortest_length column)
  plain-planned fraction =
      let plain-most : plain_length column ≤ 134217734 = plain-limit column size in
      let shortest-most : shortest_length column ≤ 134217734 = le_trans (shortest_length-least column Plain (plain-available column)) plain-most in
      Iff.trans (plain-planned-test (level-positive fraction)) (gain-at-level fraction (plain_length column) (shortest_length column) plain-most shortest-most)

  -- "5 times the length exceeds 4 times plain at levels 1 to 3"
  pub plain-planned-1-3 : 1 ≤ level → level ≤ 3 → ((plan_of level column).encoding ≡ Plain) ↔ (4 * plain_length column < 5 * shortest_length column)
  plain-planned-1-3 from to = plain-planned (levels-1-3 from to)

  -- "20 times exceeds 19 times at 4 to 6"
  pub plain-planned-4-6 : 4 ≤ level → level ≤ 6 → ((plan_of level column).encoding ≡ Plain) ↔ (19 * plain_length column < 20 * shortest_length column)
  plain-planned-4-6 from to = plain-planned (levels-4-6 from to)

  -- "and 100 times exceeds 99 times at 7 to 9"
  pub plain-planned-7-9 : 7 ≤ level → ((plan_of level column).encoding ≡ Plain) ↔ (99 * plain_length column < 100 * shortest_length column)
  plain-planned-7-9 from = plain-planned (levels-7-9 from)
