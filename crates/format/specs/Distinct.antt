-- The distinct values of a column, rising, as they are collected in the scratch (01, "Statistics, estimates, plan": "Scratch after a call ..: the distinct
-- values rising (of more than 16,384, the first 16,384 met), then old contents").
use Rattle.std.specs.Prelude.{ℕ, min, ◌≡◌, Bool, true, cond, List, [], ◌∷◌, ℤ, leb, ltb, length}
use Rattle.std.specs.Int.Signed.{lt_z}
use Rattle.format.specs.Outcome.{Outcome, check}
use Rattle.format.specs.Encodings.{max_dictionary_cardinality}
use Rattle.format.specs.Answers.{stored}

-- v at its place in rising values, if it is not there yet
unfoldable pub insert : ℤ → List ℤ → List ℤ
insert v [] = v ∷ []
insert v (x ∷ xs) = cond (lt_z x v) (x ∷ insert v xs) (cond (lt_z v x) (v ∷ x ∷ xs) (x ∷ xs))

-- "the distinct values rising": a walk in which `held` were met and the rest is still to come
unfoldable pub distinct_from : List ℤ → List ℤ → List ℤ
distinct_from held [] = held
distinct_from held (v ∷ vs) = distinct_from (insert v held) vs

unfoldable pub distinct : List ℤ → List ℤ
distinct column = distinct_from [] column

-- v is less than the first of a list, if there is one
abbrev pub Under : ℤ → List ℤ → Type 0
Under v [] = Unit {0}
Under v (x ∷ xs) = lt_z v x ≡ true

-- "rising": each value is less than the next. Codes are looked for among such values; `distinct` gives no others
abbrev pub Rising : List ℤ → Type 0
Rising [] = Unit {0}
Rising (x ∷ xs) = Under x xs × Rising xs

-- more than 16,384 of them?
unfoldable pub too_many_distinct : List ℤ → Bool
too_many_distinct column = ltb max_dictionary_cardinality (length (distinct column))

-- "of more than 16,384, the first 16,384 met": the same walk, which takes no value in once 16,384 are held
unfoldable pub capped_distinct_from : List ℤ → List ℤ → List ℤ
capped_distinct_from held [] = held
capped_distinct_from held (v ∷ vs) = capped_distinct_from (cond (ltb (length held) max_dictionary_cardinality) (insert v held) held) vs

unfoldable pub capped_distinct : List ℤ → List ℤ
capped_distinct column = capped_distinct_from [] column

-- "scratch of min(count, 16,384)": how many places are needed
abbrev pub scratch_needed : List ℤ → ℕ
scratch_needed column = min (length column) max_dictionary_cardinality

-- "scratch of min(count, 16,384)? 22", at 0
unfoldable pub scratch_check : List ℤ → ℕ → Outcome (Unit {0})
scratch_check column room = check (leb (scratch_needed column) room) 22 0

-- "the distinct values rising (of more than 16,384, the first 16,384 met), then old contents"
unfoldable pub collected : List ℤ → List ℤ → List ℤ
collected column scratch = stored (capped_distinct column) scratch
