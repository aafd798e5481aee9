-- Answers (01, "Questions at the counter"): "An answer is accepted, with the count of values or bytes stored, or a number with an offset, count 0."
-- "Accepted: the values, or in writing the chunk, fill the buffer's front; the rest is untouched."
use Rattle.std.specs.Prelude.{ℕ, List, ◌++◌, length, drop, Result, Ok, Err}
use Rattle.format.specs.Outcome.{Outcome, refused, ok}
use Rattle.format.specs.Refusals.{kind_number}
use Rattle.format.specs.declared.refusals.Refusal.{Refusal}

-- What a result says, as the outcome of a list of questions: a refusal's kind is a number, and the map is one to one.
abbrev pub outcome_of : {A : Type 0} → Result A Refusal → Outcome A
outcome_of (Err refusal) = refused (kind_number refusal.kind) refusal.offset
outcome_of (Ok found) = ok found

-- "this paper's number and values": the number (0: accepted), the offset, the count
abbrev pub number_of : Outcome ℕ → ℕ
number_of (ok count) = 0
number_of (refused number offset) = number

abbrev pub offset_of : Outcome ℕ → ℕ
offset_of (ok count) = 0
offset_of (refused number offset) = offset

abbrev pub count_of : Outcome ℕ → ℕ
count_of (ok count) = count
count_of (refused number offset) = 0

-- the answer of a list of questions that finds what is to be stored: "the count of values or bytes stored"
abbrev pub stored_answer {ℓ} : {A : Type ℓ} → Outcome (List A) → Outcome ℕ
stored_answer (refused number offset) = refused number offset
stored_answer (ok front) = ok (length front)

-- "fill the buffer's front; the rest is untouched"
unfoldable pub stored {ℓ} : {A : Type ℓ} → List A → List A → List A
stored front buffer = front ++ drop (length front) buffer

-- a buffer after such a list: untouched where it is refused
abbrev pub buffer_after {ℓ} : {A : Type ℓ} → Outcome (List A) → List A → List A
buffer_after (refused number offset) buffer = buffer
buffer_after (ok front) buffer = stored front buffer
