-- `wb_distinct_values` meets its contract, by what the answer of collecting tells of statistics.
use mathlib.Core.Path.{◌≡◌, ap, ◌∙◌}
use Prim.Native.Nat.{ℕ}
use Rattle.std.specs.Prelude.{Ok, Err}
use Rattle.format.specs.Answers.{number_of}
use Rattle.format.specs.Refusals.{kind_number}
use Rattle.format.specs.declared.refusals.Refusal.{Refusal}
use Rattle.format.specs.Statistics.{StatsAnswer}
use Rattle.stats.proofs.Answering.{same_scratch, told, analysed-exact, analysed-many, analysed-none, part-front}
use Rattle.c_api.proofs.columns.wb_distinct_values.Goals as goal

-- equal answers have one number
number : {a b : StatsAnswer} → a ≡ b → number_of a.answer ≡ number_of b.answer
number e = ap (λ (a : StatsAnswer). number_of a.answer) e

-- ---- the values were counted

pub returns-in-Ok-clause-value : goal.returns-in-Ok-clause-value
returns-in-Ok-clause-value c = ap (λ (p : ℕ × ℕ). p.0) c.tell.ensures ∙ number (analysed-exact _ _ (told _ _ c.in-Ok.ensures.value)).answer

pub returns-in-Ok-clause-place_after : goal.returns-in-Ok-clause-place_after
returns-in-Ok-clause-place_after c = ap (λ (p : ℕ × ℕ). p.1) c.tell.ensures ∙ (part-front _ _ c.in-Ok.ensures.scratch_after (Ok c.in-Ok.count) c.in-Ok.ensures.value).1

pub returns-in-Ok-clause-scratch_after : goal.returns-in-Ok-clause-scratch_after
returns-in-Ok-clause-scratch_after c = c.collect.ensures.scratch_after ∙ same_scratch _ _

-- ---- there are too many

pub returns-in-Err-clause-value : goal.returns-in-Err-clause-value
returns-in-Err-clause-value c = ap (λ (p : ℕ × ℕ). p.0) c.tell-in-Err.ensures ∙ number (analysed-many _ _ _ (told _ _ c.in-Err.ensures.value) c.if-eq.ensures).answer

pub returns-in-Err-clause-place_after : goal.returns-in-Err-clause-place_after
returns-in-Err-clause-place_after c = ap (λ (p : ℕ × ℕ). p.1) c.tell-in-Err.ensures ∙ (part-front _ _ c.in-Err.ensures.scratch_after (Err c.in-Err.refusal) c.in-Err.ensures.value).1

pub returns-in-Err-clause-scratch_after : goal.returns-in-Err-clause-scratch_after
returns-in-Err-clause-scratch_after c = c.collect.ensures.scratch_after ∙ same_scratch _ _

-- ---- another refusal

pub returns-in-Err-2-clause-value : goal.returns-in-Err-2-clause-value
returns-in-Err-2-clause-value c = ap (λ (p : ℕ × ℕ). p.0) c.tell-in-Err-2.ensures ∙ ap (λ (r : Refusal). kind_number r.kind) c.at.ensures ∙ number (analysed-none _ _ _ (told _ _ c.in-Err.ensures.value) c.if-eq.ensures)

pub returns-in-Err-2-clause-place_after : goal.returns-in-Err-2-clause-place_after
returns-in-Err-2-clause-place_after c = ap (λ (p : ℕ × ℕ). p.1) c.tell-in-Err-2.ensures ∙ ap (λ (r : Refusal). r.offset) c.at.ensures ∙ (part-front _ _ c.in-Err.ensures.scratch_after (Err c.in-Err.refusal) c.in-Err.ensures.value).1

pub returns-in-Err-2-clause-scratch_after : goal.returns-in-Err-2-clause-scratch_after
returns-in-Err-2-clause-scratch_after c = c.collect.ensures.scratch_after ∙ same_scratch _ _
