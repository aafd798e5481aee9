-- How an answer reaches a caller in C: the number is returned, what else there is goes through pointers (01, "Forms to use in the code": "Where an answer is an
-- enum, a definition gives this paper's number and values for each of its cases").
use Rattle.std.specs.Prelude.{ℕ, Bool, false, ℤ, pos}
use Rattle.format.specs.Outcome.{Outcome, refused, ok}
use Rattle.format.specs.Varint.{Uvarint}
use Rattle.format.specs.Standalone.{Varint}
use Rattle.format.specs.declared.Read.{Read}

-- "accepted, with the count of values or bytes stored, or a number with an offset": the number, and the count or the offset
abbrev pub told : Outcome ℕ → ℕ × ℕ
told (ok count) = (0, count)
told (refused number offset) = (number, offset)

-- a varint that was read: number, value, whether it is unpadded, and the place after it or the offset; a refused one has the value `none`
abbrev pub read_told : {A : Type 0} → A → Outcome (Read A) → ℕ × A × Bool × ℕ
read_told none (ok v) = (0, v.value, v.unpadded, v.next)
read_told none (refused number offset) = (number, none, false, offset)

abbrev pub uvarint_told : Outcome Uvarint → ℕ × ℕ × Bool × ℕ
uvarint_told = read_told 0

abbrev pub varint_told : Outcome Varint → ℕ × ℤ × Bool × ℕ
varint_told = read_told (pos 0)
