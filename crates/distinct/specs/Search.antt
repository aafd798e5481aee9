-- Looking for a key in a list of values by quarters. The definitions say where every turn goes, so they say what is found in any list; in a rising one it is the key's code, the
-- number of values that are less (proofs/Searching, `searched_code`).
use Rattle.std.specs.Prelude.{ℕ, zero, suc, ◌+◌, ◌-◌, ◌*◌, ◌/◌, ◌%◌, ◌^◌, Bool, cond, ◌&&◌, List, ℤ, pos, ltb, eqb, length, get_or}
use Rattle.std.specs.Int.Bits.{bit_and}
use Rattle.std.specs.Int.Signed.{lt_z}
use Rattle.format.specs.Keys.{residue, eq_z}
use Rattle.format.specs.Width.{width}

-- how far to go up, over `far` values, from a value that is asked: all of them if it is less than the key, else not at all
abbrev pub up_over : ℤ → ℤ → ℕ → ℕ
up_over value key far = cond (lt_z value key) far 0

-- where a turn goes in 4 quarters of `far` values from `low` on: up over a quarter for each of the three values between them that is less than the key
unfoldable pub quartered : List ℤ → ℤ → ℕ → ℕ → ℕ
quartered values key low far =
    low + up_over (get_or values (low + far) (pos 0)) key far + up_over (get_or values (low + 2 * far) (pos 0)) key far
    + up_over (get_or values (low + 3 * far) (pos 0)) key far

-- what is found in 2^left values from `low` on: a turn leaves a quarter of them, or a half of the last two, and the last value is asked
unfoldable pub narrowed : List ℤ → ℤ → ℕ → ℕ → ℕ
narrowed values key low zero = low + up_over (get_or values low (pos 0)) key 1
narrowed values key low (suc zero) = narrowed values key (low + up_over (get_or values (low + 1) (pos 0)) key 1) zero
narrowed values key low (suc (suc k)) = narrowed values key (quartered values key low (2 ^ k)) k

-- the power of two that is at most the number of some values, and more than half of it
abbrev pub power_in : ℕ → ℕ
power_in count = width count - 1

-- WHAT A SEARCH FINDS in the first 2^k values, or in the last ones if the first of these is less than the key; among no values it finds 0
unfoldable pub searched : List ℤ → ℤ → ℕ
searched values key =
    let k = power_in (length values) in
    let last = length values - 2 ^ k in
    cond (eqb (length values) 0) 0 (narrowed values key (up_over (get_or values last (pos 0)) key last) k)

-- whether a key stands at a place
unfoldable pub stands_at : List ℤ → ℕ → ℤ → Bool
stands_at values at key = ltb at (length values) && eq_z (get_or values at (pos 0)) key

-- a key's bits mixed: the sum of its two halves multiplied by a prime, so that near keys have slots far apart, on both sides of 0
unfoldable pub mixed : ℤ → ℕ
mixed key = (residue key % 2 ^ 32 + residue key / 2 ^ 32) % 2 ^ 32 * 2654435761 / 2 ^ 17

-- THE SLOT OF A KEY in a table of a power of two of slots
unfoldable pub slot_of : ℤ → ℕ → ℕ
slot_of key slots = bit_and (mixed key) (slots - 1)
