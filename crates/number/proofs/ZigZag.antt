-- ZigZag over the definitions: each number is the ZigZag of one key, and a key's varint gets no shorter away from 0, on either side, since the ZigZag rises
-- there.
use Rattle.std.proofs.Common.{◌≡◌, ℕ, ◌+◌, ◌*◌, ◌/◌, ◌%◌, ◌≤◌, Bool, true, false, cond, eqb, pos, negsuc, refl, arith, eqb-true}
use borrow.Author.Tests.{eqb-false}
use Rattle.format.specs.Keys.{Key, zigzag, unzigzag}
use Rattle.format.specs.Varint.{varint_len}
use Rattle.format.proofs.Numbers.Keys.{zigzag-lt}
use Rattle.format.proofs.Numbers.Widths.{uvarint_len-mono}

-- the other inverse (`unzigzag-zigzag` is format's)
pub zigzag-unzigzag : (z : ℕ) → zigzag (unzigzag z) ≡ z
unfolding unzigzag
zigzag-unzigzag z = go (eqb (z % 2) 0) refl
  where
    go : (even : Bool) → eqb (z % 2) 0 ≡ even → zigzag (cond even (pos (z / 2)) (negsuc (z / 2))) ≡ z
    go true e = omega (arith, eqb-true (z % 2) 0 e)
    go false e = let n : z % 2 ≡ 0 → ⊥ = eqb-false (z % 2) 0 e in omega arith

-- upwards from 0
pub varint_len-up : (a b : ℕ) → a ≤ b → Key (pos b) → varint_len (pos a) ≤ varint_len (pos b)
unfolding varint_len
varint_len-up a b h k = uvarint_len-mono (2 * a) (2 * b) (omega arith) (zigzag-lt (pos b) k)

-- downwards from -1
pub varint_len-down : (a b : ℕ) → a ≤ b → Key (negsuc b) → varint_len (negsuc a) ≤ varint_len (negsuc b)
unfolding varint_len
varint_len-down a b h k = uvarint_len-mono (2 * a + 1) (2 * b + 1) (omega arith) (zigzag-lt (negsuc b) k)
