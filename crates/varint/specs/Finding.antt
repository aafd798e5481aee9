-- What finding a varint says: its value and the place after it, and what is known of it after its first bytes.
use Rattle.std.specs.Prelude.{◌≡◌, ℕ, ◌+◌, ◌≤◌, List, length, drop, Option, Some, None}
use Rattle.format.specs.Outcome.{Outcome, refused, ok}
use Rattle.format.specs.Varint.{Uvarint, uvarint_end, read_uvarint, uvarint_at}
use Rattle.varint.specs.declared.find.Found.{Found}

-- a varint's value and the place after it, and none where it is refused
abbrev pub found_of : Outcome Uvarint → Option Found
found_of (refused number offset) = None
found_of (ok v) = Some (record { value = v.value; next = v.next })

abbrev pub found_in : List ℕ → ℕ → Option Found
found_in s at = found_of (read_uvarint s at)

-- the same of one that was read before, and 0 and 0 where it is refused
abbrev pub found_at : List ℕ → ℕ → Found
found_at s at = record { value = (uvarint_at s at).value; next = (uvarint_at s at).next }

-- the place after a varint, and none where it is refused
abbrev pub end_of : Outcome Uvarint → Option ℕ
end_of (refused number offset) = None
end_of (ok v) = Some v.next

abbrev pub end_in : List ℕ → ℕ → Option ℕ
end_in s at = end_of (read_uvarint s at)

-- none of the first k bytes from `at` on is the last
pub record Walked (s : List ℕ) (at k : ℕ) : Type 0 where
  pub left : ℕ
  pub places : k + left ≡ 10
  pub inside : at + k ≤ length s
  pub walk : uvarint_end at 10 (drop at s) at ≡ uvarint_end at left (drop (at + k) s) (at + k)
