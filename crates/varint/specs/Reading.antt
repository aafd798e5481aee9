-- What private functions say of a varint that is read in parts: what is known after its first bytes, and the groups of eight bytes. The public
-- contracts cite none of this.
use Rattle.std.specs.Prelude.{◌≡◌, ℕ, ◌+◌, ◌-◌, ◌*◌, ◌%◌, ◌<◌, ◌≤◌, List, map, length, drop}
use Rattle.format.specs.Digits.{of_digits, digits}
use Rattle.format.specs.Varint.{uvarint_end, uvarint_value}

-- The bytes from `at` to `pos` are passed, and none of them is the last; `left` more may come. They are worth `value`, and the next counts 2 ^ shift.
pub record Reading (s : List ℕ) (at value pos shift : ℕ) : Type 0 where
  pub left : ℕ
  pub places : pos + left ≡ at + 10
  pub begun : at < pos
  pub inside : pos ≤ length s
  pub weight : shift ≡ (pos - at) * 7
  pub sum : value ≡ uvarint_value s at pos
  pub walk : uvarint_end at 10 (drop at s) at ≡ uvarint_end at left (drop pos s) pos

-- the seven low bits of each of the eight bytes of x, one group after the other
abbrev pub groups8 : ℕ → ℕ
groups8 x = of_digits 128 (map (λ b. b % 128) (digits 256 8 x))
