-- A list of questions and its outcome (01, "Questions at the counter"): "The first 'no' decides."
use Rattle.std.specs.Prelude.{ℕ, Bool, true, false}

-- The outcome of a list of questions: refused, with 01's number and the offset, or passed, with what was found.
pub data Outcome {ℓ} (A : Type ℓ) : Type ℓ where
  refused : ℕ → ℕ → Outcome A
  ok : A → Outcome A

-- First the one list and then, with what it found, the other: the first "no" decides. (`do` is written with this.)
infixl 1 ◌>>=◌
abbrev pub ◌>>=◌ {ℓ κ} : {A : Type ℓ} {B : Type κ} → Outcome A → (A → Outcome B) → Outcome B
refused number offset >>= further = refused number offset
ok found >>= further = further found

-- One question. Where the answer is no: its number, at its offset.
abbrev pub check : Bool → ℕ → ℕ → Outcome (Unit {0})
check true number offset = ok tt
check false number offset = refused number offset

-- What was found, or another value where the list was refused. It serves for what is read again after it was once found.
abbrev pub value_or {ℓ} : {A : Type ℓ} → A → Outcome A → A
value_or other (refused number offset) = other
value_or other (ok found) = found
