-- What a caller of `collect` has: where its answer is accepted, the front of the scratch is the distinct values.
use mathlib.Core.Path.{◌≡◌, sym, ap, ◌∙◌}
use mathlib.Core.Bool.{not}
use mathlib.Core.List.{List}
use Prim.Native.Nat.{ℕ, ◌≤◌}
use native.Mathlib.Omega.{arith}
use lib.IntN.{ℤ}
use lib.Dec.{leb}
use lib.ListN.{length, take}
use borrow.Author.Tests.{le-leb, leb-true, not-true}
use Rattle.format.specs.Outcome.{ok, check}
use Rattle.format.specs.Encodings.{encoding_of, encodings, max_chunk_elements, max_dictionary_cardinality}
use Rattle.format.specs.Answers.{stored}
use Rattle.format.specs.Distinct.{distinct, too_many_distinct, scratch_needed, scratch_check, collected}
use Rattle.format.specs.Write.{write_checks, write_scratch}
use Rattle.format.proofs.Codecs.Outcome.{both-passed, check-passed}
use Rattle.format.proofs.Numbers.Distinct.{length-distinct, few-distinct, capped_distinct-all}
use Rattle.format.proofs.Plan.Checks.{length-stored, take-stored}
use Rattle.distinct.specs.Collect.{count_outcome, collect_outcome}

-- what the scratch has where it is long enough
scratch-filled : (column scratch : List ℤ) → length column ≤ max_chunk_elements → scratch_needed column ≤ length scratch → collected column scratch ≡ write_scratch 6 column scratch
unfolding write_scratch write_checks scratch_check encoding_of encodings
scratch-filled column scratch few h = rw (le-leb (length column) max_chunk_elements few, le-leb (scratch_needed column) (length scratch) h)

-- the scratch of a column with few enough distinct values
filled : (column scratch : List ℤ) → length (distinct column) ≤ max_dictionary_cardinality → collected column scratch ≡ stored (distinct column) scratch
unfolding collected
filled column scratch h = ap (λ (l : List ℤ). stored l scratch) (capped_distinct-all column h)

-- a scratch whose first n values are the column's distinct values
pub record Collected (column scratch : List ℤ) (n : ℕ) : Type 0 where
  pub few : length column ≤ max_chunk_elements
  pub most : n ≤ max_dictionary_cardinality
  pub there : n ≤ length scratch
  pub front : take n scratch ≡ distinct column
  pub count : n ≡ length (distinct column)

pub collected-accepted : (column scratch : List ℤ) {after : List ℤ} {n : ℕ} → after ≡ write_scratch 6 column scratch → collect_outcome column (length scratch) ≡ ok n
    → Collected column after n
unfolding collect_outcome scratch_check count_outcome
collected-accepted column scratch {after} {n} e h =
    both-passed (check (leb (length column) max_chunk_elements) 21 0) _ h λ _ a h₁.
    both-passed (check (leb (scratch_needed column) (length scratch)) 22 0) _ h₁ λ _ b h₂.
    both-passed (check (not (too_many_distinct column)) 23 0) _ h₂ λ _ d h₃.
    let few = leb-true _ _ (check-passed _ 21 0 a) in
    let room = leb-true _ _ (check-passed _ 22 0 b) in
    let most : length (distinct column) ≤ max_dictionary_cardinality = few-distinct column (not-true _ (check-passed _ 23 0 d)) in
    let count : n ≡ length (distinct column) = cc in
    let are : after ≡ stored (distinct column) scratch = e ∙ sym (scratch-filled column scratch few room) ∙ filled column scratch most in
    let fits : length (distinct column) ≤ length scratch = omega (arith, room, length-distinct column) in
    record {
      few = few;
      most = rw count most;
      there = rw (count, are, length-stored (distinct column) scratch fits) fits;
      front = rw (count, are) (take-stored (distinct column) scratch);
      count = count;
    }
