-- Collecting asks the questions of statistics, 21 and 22, and then one more, 23, which statistics answers with a cardinality. So its answer tells theirs, and
-- it leaves the scratch that they leave.
use mathlib.Core.Path.{◌≡◌, refl, sym, ap, ◌∙◌}
use mathlib.Core.Bool.{Bool, true, false, not}
use mathlib.Core.List.{List, []}
use Prim.Native.Nat.{ℕ, ◌+◌, ◌<◌}
use native.Mathlib.Omega.{arith}
use lib.IntN.{ℤ}
use lib.Dec.{leb}
use lib.ListN.{length, take}
use borrow.Author.Rules.{rules}
use borrow.Author.Tests.{lt-leb, ltb-true}
use denote.Enum.Bare.{sameb, same_true, same_false}
use Rattle.std.specs.Prelude.{Result, Ok, Err}
use Rattle.std.specs.Result.{result_unwrap_or}
use Rattle.format.specs.Outcome.{Outcome, refused, ok, check, ◌>>=◌}
use Rattle.format.specs.Encodings.{encoding_of, encodings, max_chunk_elements, max_dictionary_cardinality}
use Rattle.format.specs.Answers.{outcome_of}
use Rattle.format.specs.Distinct.{distinct, too_many_distinct, capped_distinct, scratch_needed, scratch_check}
use Rattle.format.specs.Statistics.{cardinality_of, stats_of, refused_stats, analysis_checks, stats_answer, scratch_after, analysis_scratch}
use Rattle.format.specs.Statistics.{distinct_values, distinct_values_part}
use Rattle.format.specs.Write.{write_checks, scratch_after_checks, write_scratch}
use Rattle.format.specs.declared.Cardinality.{Cardinality}
use Rattle.format.specs.declared.Cardinality.TheVariants.{Exact, AtLeast}
use Rattle.format.specs.declared.encoding.Encoding.TheVariants.{Dictionary}
use Rattle.format.proofs.Numbers.Distinct.{few-distinct, capped_distinct-all, length-capped_distinct}
use Rattle.format.proofs.Third.Buffers.{distinct_values-part}
use Rattle.format.specs.Refusals.{kind_number}
use Rattle.format.specs.declared.refusals.Refusal.{Refusal}
use Rattle.format.specs.declared.refusals.Kind.{Kind}
use Rattle.format.specs.declared.refusals.Kind.TheVariants.{TooManyDistinct}
use Rattle.format.specs.contracts.refusals.Kind.{the_type}
use Rattle.stats.proofs.TooMany.{too_many-number}
use Rattle.distinct.specs.Collect.{count_outcome, collect_outcome}

-- the scratch that collecting leaves
pub same_scratch : (column scratch : List ℤ) → write_scratch 6 column scratch ≡ analysis_scratch column scratch
unfolding write_scratch write_checks encoding_of encodings analysis_scratch analysis_checks
same_scratch column scratch = go (leb (length column) max_chunk_elements) (scratch_check column (length scratch))
  where
    go : (t : Bool) (o : Outcome (Unit {0}))
        → scratch_after_checks (check t 21 0 >>= λ _. o >>= λ _. ok Dictionary) column scratch ≡ scratch_after (check t 21 0 >>= λ _. o) column scratch
    go false o = refl
    go true (refused number offset) = refl
    go true (ok done) = refl

-- and the one that a column above the limit leaves
pub left : (column scratch : List ℤ) → max_chunk_elements < length column → scratch ≡ analysis_scratch column scratch
unfolding analysis_scratch analysis_checks
left column scratch h = rw (lt-leb (length column) max_chunk_elements h)

module _ (column : List ℤ) (room : ℕ) where
  -- what an answer of collecting says: 21 or 22 refused it, or 23 did, or the distinct values were counted
  pub data Tells : Outcome ℕ → Type 0 where
    short : {number offset : ℕ} → analysis_checks column room ≡ refused number offset → (number ≡ 23 → ⊥) → Tells (refused number offset)
    many : analysis_checks column room ≡ ok tt → too_many_distinct column ≡ true → Tells (refused 23 0)
    exact : {n : ℕ} → analysis_checks column room ≡ ok tt → too_many_distinct column ≡ false → n ≡ length (distinct column) → Tells (ok n)

  tells : Tells (collect_outcome column room)
  unfolding collect_outcome count_outcome analysis_checks scratch_check
  tells = go (leb (length column) max_chunk_elements) refl (leb (scratch_needed column) room) refl (too_many_distinct column) refl
    where
      go : (a : Bool) → leb (length column) max_chunk_elements ≡ a → (b : Bool) → leb (scratch_needed column) room ≡ b → (t : Bool) → too_many_distinct column ≡ t
          → Tells (check a 21 0 >>= λ _. check b 22 0 >>= λ _. check (not t) 23 0 >>= λ _. ok (length (distinct column)))
      go false ea b eb t et = short {number = 21} {offset = 0} (rw ea) (λ e. omega arith)
      go true ea false eb t et = short {number = 22} {offset = 0} (rw (ea, eb)) (λ e. omega arith)
      go true ea true eb true et = many (rw (ea, eb)) et
      go true ea true eb false et = exact (rw (ea, eb)) et refl

  pub told : {answer : Outcome ℕ} → answer ≡ collect_outcome column room → Tells answer
  told e = rw e tells

  -- ---- statistics that are not refused

  pub record Analysed (n : ℕ) (cardinality : Cardinality) : Type 0 where
    pub known : cardinality ≡ cardinality_of column
    pub answer : record { answer = ok n; stats = stats_of column } ≡ stats_answer column room

  analysed : analysis_checks column room ≡ ok tt → {n : ℕ} {cardinality : Cardinality} → n ≡ length (capped_distinct column) → cardinality ≡ cardinality_of column
      → Analysed n cardinality
  unfolding stats_answer
  analysed passed e known = record { known = known; answer = rw (passed, e) }

  pub analysed-exact : {n : ℕ} → Tells (ok n) → Analysed n (Exact n)
  unfolding cardinality_of
  analysed-exact (exact passed few e) = analysed passed (e ∙ ap length (sym (capped_distinct-all column (few-distinct column few)))) (rw (few, e))

  many-analysed : {number offset : ℕ} → Tells (refused number offset) → number ≡ 23
      → Analysed max_dictionary_cardinality (AtLeast (max_dictionary_cardinality + 1))
  unfolding cardinality_of too_many_distinct
  many-analysed (short refusal other) e = absurd (other e)
  many-analysed (many passed too) e =
      analysed passed (omega (arith, length-capped_distinct column, ltb-true max_dictionary_cardinality (length (distinct column)) too)) (rw too)

  pub analysed-many : (kind : Kind) {offset : ℕ} → Tells (refused (kind_number kind) offset) → true ≡ sameb the_type kind TooManyDistinct
      → Analysed max_dictionary_cardinality (AtLeast (max_dictionary_cardinality + 1))
  analysed-many kind t e = many-analysed t (ap kind_number (same_true the_type (search rules) kind TooManyDistinct (sym e)))

  -- ---- statistics that are refused

  -- a column above the limit
  pub above : max_chunk_elements < length column → record { answer = refused 21 0; stats = refused_stats } ≡ stats_answer column room
  unfolding stats_answer analysis_checks
  above h = rw (lt-leb (length column) max_chunk_elements h)

  -- by collecting
  none-analysed : {number offset : ℕ} → Tells (refused number offset) → (number ≡ 23 → ⊥)
      → record { answer = refused number offset; stats = refused_stats } ≡ stats_answer column room
  unfolding stats_answer
  none-analysed (short refusal other) n = rw refusal
  none-analysed (many passed too) n = absurd (n refl)

  pub analysed-none : (kind : Kind) {offset : ℕ} → Tells (refused (kind_number kind) offset) → false ≡ sameb the_type kind TooManyDistinct
      → record { answer = refused (kind_number kind) offset; stats = refused_stats } ≡ stats_answer column room
  analysed-none kind t e = none-analysed t (λ n. same_false the_type kind TooManyDistinct (sym e) (too_many-number kind n))

  -- ---- the distinct values that are handed back

  part-exact : {n : ℕ} → Tells (ok n) → n ≡ length (distinct_values_part column room)
  unfolding distinct_values_part distinct_values
  part-exact (exact passed few e) = rw (passed, few) e

  part-none : {number offset : ℕ} → Tells (refused number offset) → [] ≡ distinct_values_part column room
  unfolding distinct_values_part distinct_values
  part-none (short refusal other) = rw refusal
  part-none (many passed too) = rw (passed, too)

module _ (column scratch : List ℤ) {after : List ℤ} (e : after ≡ write_scratch 6 column scratch) where
  -- they are the scratch's front, and so many as collecting counted; none where it refused
  pub part-front : (found : Result ℕ Refusal) → outcome_of found ≡ collect_outcome column (length scratch)
      → (take (result_unwrap_or found 0) after ≡ distinct_values_part column (length scratch)) × (result_unwrap_or found 0 ≡ length (distinct_values_part column (length scratch)))
  part-front (Ok n) h =
      let count = part-exact column (length scratch) (told column (length scratch) h) in
      (rw (count, e, same_scratch column scratch) (distinct_values-part column scratch), count)
  part-front (Err refusal) h = let none = part-none column (length scratch) (told column (length scratch) h) in (none, ap length none)

  -- told of any count that is that one
  module _ (found : Result ℕ Refusal) (h : outcome_of found ≡ collect_outcome column (length scratch)) {count : ℕ} (is : count ≡ result_unwrap_or found 0) where
    pub part_taken : take count after ≡ distinct_values_part column (length scratch)
    part_taken = rw is (part-front found h).0

    pub part_whole : count ≡ length (take count after)
    part_whole = let part = part-front found h in rw is (part.1 ∙ ap length (sym part.0))
