-- A varint's bytes, one by one, as the loop of `write_uvarint` stores them: a number below 128 is one byte, and any other is its lowest group with the
-- continuation bit and then the varint of the rest. The lengths follow from format's laws that a length holds the number and no shorter one does.
use Rattle.std.proofs.Common.{◌≡◌, ℕ, zero, suc, ◌+◌, ◌*◌, ◌/◌, ◌%◌, ◌^◌, ◌<◌, ◌≤◌, [], ◌∷◌, refl, le_refl, mod-eq_of_lt, le_antisymm, pow-suc, arith}
use Rattle.format.specs.Digits.{digits}
use Rattle.format.specs.Varint.{uvarint_len, continued, uvarint_bytes}
use Rattle.format.proofs.Numbers.Widths.{uvarint_len-pos, uvarint_len-lt, uvarint_len_least}

-- ---- how many

pub uvarint_len_one : (x : ℕ) → x < 128 → uvarint_len x ≡ 1
uvarint_len_one x h = le_antisymm (uvarint_len_least x 1 (le_refl 1) h) (uvarint_len-pos x)

pub uvarint_len-more : (x : ℕ) → 128 ≤ x → x < 2 ^ 64 → uvarint_len x ≡ suc (uvarint_len (x / 128))
uvarint_len-more x h k = le_antisymm up (go (uvarint_len x) (uvarint_len-lt x k))
  where
    up : uvarint_len x ≤ suc (uvarint_len (x / 128))
    up =
        let n : ℕ = uvarint_len (x / 128) in
        let p : x / 128 < 128 ^ n = uvarint_len-lt (x / 128) (omega arith) in
        uvarint_len_least x (suc n) (omega arith) (rw (pow-suc 128 n) (omega arith))

    go : (n : ℕ) → x < 128 ^ n → suc (uvarint_len (x / 128)) ≤ n
    go zero q = absurd (omega arith)
    go (suc zero) q = absurd (omega arith)
    go (suc (suc n)) q =
        let p : x < 128 ^ suc n * 128 = rw (pow-suc 128 (suc n)) at q in
        omega (arith, uvarint_len_least (x / 128) (suc n) (omega arith) (omega arith))

-- ---- which

pub uvarint_bytes-one : (x : ℕ) → x < 128 → uvarint_bytes x ≡ x ∷ []
unfolding uvarint_bytes continued digits
uvarint_bytes-one x h = rw (uvarint_len_one x h, mod-eq_of_lt h)

pub uvarint_bytes-more : (x : ℕ) → 128 ≤ x → x < 2 ^ 64 → uvarint_bytes x ≡ (x % 128 + 128) ∷ uvarint_bytes (x / 128)
unfolding uvarint_bytes continued digits
uvarint_bytes-more x h k = rw (uvarint_len-more x h k) (go (uvarint_len (x / 128)) (uvarint_len-pos (x / 128)))
  where
    go : (n : ℕ) → 1 ≤ n → continued (digits 128 (suc n) x) ≡ (x % 128 + 128) ∷ continued (digits 128 n (x / 128))
    go zero p = absurd (omega arith)
    go (suc n) p = refl
