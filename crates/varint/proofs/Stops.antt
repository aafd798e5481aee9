-- The first byte below 128 in a list of bytes, where a varint ends, by the walk to the end and by bits: the bytes below 128 have a bit set in `marks`, so the zeros
-- below its lowest bit tell the place. By induction on the list.
use Rattle.std.proofs.Common.{◌≡◌, ℕ, zero, suc, ◌+◌, ◌-◌, ◌*◌, ◌/◌, ◌%◌, ◌^◌, ◌<◌, ◌≤◌, ◌⊎◌, List, [], ◌∷◌, ◌++◌, length, get_or, sym, refl, ap, ◌∙◌, ap₂, inl, inr, add-zero, zero-lt-suc, mul_assoc, suc-add, pow-suc, zero-add, mul-one, arith, pow-add, le-ltb, lt-ltb}
use native.Mathlib.Decide.{dec_lt}
use lib.Bits.{bit_and, and_block, and_high, shifted_half, shifted_even}
use lib.Count.{count_trailing_zeros, trailing_of_zero, trailing_le}
use Rattle.format.specs.Outcome.{ok}
use Rattle.format.specs.Digits.{of_digits}
use Rattle.format.specs.Varint.{uvarint_end}
use Rattle.format.proofs.Numbers.All.{All, all_none, all_more, Below}
use Rattle.format.proofs.Numbers.Digits.{of_digits-lt}

-- ---- the first byte that ends a varint

-- it is at place n
pub data Stop : List ℕ → ℕ → Type 0 where
  here : {b : ℕ} {bs : List ℕ} → b < 128 → Stop (b ∷ bs) 0
  there : {b n : ℕ} {bs : List ℕ} → 128 ≤ b → Stop bs n → Stop (b ∷ bs) (suc n)

-- the others go on
abbrev pub Continued : List ℕ → Type 0
Continued bs = All (λ b. 128 ≤ b) bs

pub stops : (bs : List ℕ) → Continued bs ⊎ ((n : ℕ) × Stop bs n)
stops [] = inl all_none
stops (b ∷ bs) = go (dec_lt b 128) (stops bs)
  where
    go : Dec (b < 128) → Continued bs ⊎ ((n : ℕ) × Stop bs n) → Continued (b ∷ bs) ⊎ ((n : ℕ) × Stop (b ∷ bs) n)
    go (yes h) r = inr (0, here h)
    go (no h) (inl r) = let k : 128 ≤ b = omega arith in inl (all_more k r)
    go (no h) (inr r) = let k : 128 ≤ b = omega arith in inr (suc r.0, there k r.1)

-- it is not the first where that goes on
pub stop-after : {bs : List ℕ} {n : ℕ} → Stop bs n → 128 ≤ get_or bs 0 0 → 0 < n
stop-after (here h) k = absurd (omega arith)
stop-after (there {n} h r) k = zero-lt-suc n

-- ---- the walk over the bytes

module _ (start left : ℕ) (rest : List ℕ) where
  pub walk-stop : {bs : List ℕ} {n : ℕ} (at : ℕ) → Stop bs n → uvarint_end start (length bs + left) (bs ++ rest) at ≡ ok (at + n + 1)
  unfolding uvarint_end
  walk-stop at (here {b} {bs} h) = rw (suc-add (length bs) left, lt-ltb b 128, add-zero at)
  walk-stop at (there {b} {n} {bs} h r) =
      let e : at + 1 + n + 1 ≡ at + suc n + 1 = omega arith in
      rw (suc-add (length bs) left, le-ltb b 128) (walk-stop (at + 1) r ∙ ap (λ (i : ℕ). ok i) e)

  pub walk-on : {bs : List ℕ} (at : ℕ) → Continued bs → uvarint_end start (length bs + left) (bs ++ rest) at ≡ uvarint_end start left rest (at + length bs)
  unfolding uvarint_end
  walk-on at all_none = rw (zero-add left, add-zero at)
  walk-on at (all_more {x = b} {xs = bs} h r) =
      let e : at + 1 + length bs ≡ at + suc (length bs) = omega arith in
      rw (suc-add (length bs) left, le-ltb b 128) (walk-on (at + 1) r ∙ ap (uvarint_end start left rest) e)

-- ---- the bits that tell where it is

-- the top bit of each of n bytes
unfoldable pub tops : ℕ → ℕ
tops zero = 0
tops (suc n) = 128 + 256 * tops n

-- the top bit of each byte below 128
unfoldable pub marks : List ℕ → ℕ
marks [] = 0
marks (b ∷ bs) = (255 - b) / 128 * 128 + 256 * marks bs

-- as the machine finds them: the complement, masked
pub marked : {bs : List ℕ} → Below 256 bs → bit_and (256 ^ length bs - 1 - of_digits 256 bs) (tops (length bs)) ≡ marks bs
unfolding of_digits tops marks
marked all_none = refl
marked (all_more {x = b} {xs = bs} h r) =
    let X : ℕ = of_digits 256 bs in
    let l : ℕ = length bs in
    let k : of_digits 256 bs < 256 ^ length bs = of_digits-lt r in
    let a : 256 ^ suc l - 1 - (b + 256 * X) ≡ (256 ^ l - 1 - X) * 2 ^ 8 + (255 - b) = rw (pow-suc 256 l) (omega arith) in
    let m : 128 + 256 * tops l ≡ tops l * 2 ^ 8 + 128 = omega arith in
    let c : 255 - b < 2 ^ 8 = omega arith in
    let d : 128 < 2 ^ 8 = omega arith in
    let f : (255 - b) / 128 % 2 ≡ (255 - b) / 128 = omega arith in
    ap₂ bit_and a m
    ∙ and_block 8 (256 ^ l - 1 - X) (tops l) (255 - b) 128 c d
    ∙ ap₂ (λ (u v : ℕ). u * 256 + v) (marked r) (and_high (255 - b) 1 7 ∙ ap (λ (u : ℕ). u * 128) f)
    ∙ omega arith

-- none where all bytes go on
pub marks-none : {bs : List ℕ} → Continued bs → marks bs ≡ 0
unfolding marks
marks-none all_none = refl
marks-none (all_more {x = b} {xs = bs} h r) = omega (arith, marks-none r)

-- j zeros below
trailing-shifted : (a j k : ℕ) → count_trailing_zeros (j + k) (a * 2 ^ j) ≡ j + count_trailing_zeros k a
unfolding count_trailing_zeros
trailing-shifted a zero k = rw (zero-add k, mul-one a, zero-add (count_trailing_zeros k a))
trailing-shifted a (suc j) k = rw (suc-add j k, shifted_even a j, shifted_half a j, trailing-shifted a j k, suc-add j (count_trailing_zeros k a))

-- seven zeros below the mark of a byte, and eight for each byte before it
pub marks-zeros : {bs : List ℕ} {n : ℕ} → Stop bs n → count_trailing_zeros (length bs * 8) (marks bs) ≡ n * 8 + 7
unfolding marks count_trailing_zeros
marks-zeros (here {b} {bs} h) =
    let M : ℕ = marks bs in
    let e : (255 - b) / 128 * 128 + 256 * M ≡ (1 + 2 * M) * 2 ^ 7 = omega arith in
    let l : suc (length bs) * 8 ≡ 7 + suc (length bs * 8) = omega arith in
    let o : (1 + 2 * M) % 2 ≡ 1 = omega arith in
    ap₂ count_trailing_zeros l e ∙ trailing-shifted (1 + 2 * M) 7 (suc (length bs * 8)) ∙ rw o
marks-zeros (there {b} {n} {bs} h r) =
    let M : ℕ = marks bs in
    let e : (255 - b) / 128 * 128 + 256 * M ≡ M * 2 ^ 8 = omega arith in
    let l : suc (length bs) * 8 ≡ 8 + length bs * 8 = omega arith in
    ap₂ count_trailing_zeros l e ∙ trailing-shifted M 8 (length bs * 8) ∙ omega (arith, marks-zeros r)

-- it is the lowest bit set
pub marks-lowest : {bs : List ℕ} {n : ℕ} → Stop bs n → (M : ℕ) × (marks bs ≡ M * 2 ^ suc (n * 8 + 7) + 2 ^ (n * 8 + 7))
unfolding marks
marks-lowest (here {b} {bs} h) = (marks bs, omega arith)
marks-lowest (there {b} {n} {bs} h r) =
    let m = marks-lowest r in
    let k : ℕ = n * 8 + 7 in
    let up : suc n * 8 + 7 ≡ n * 8 + 7 + 8 = omega arith in
    let high : m.0 * 2 ^ suc (suc n * 8 + 7) ≡ m.0 * 2 ^ suc k * 256
    = ap (λ (i : ℕ). m.0 * 2 ^ suc i) up ∙ ap (λ (i : ℕ). m.0 * 2 ^ i) (sym (suc-add k 8)) ∙ ap (λ (i : ℕ). m.0 * i) (pow-add 2 (suc k) 8)
    ∙ sym (mul_assoc m.0 (2 ^ suc k) 256) in
    let low : 2 ^ (suc n * 8 + 7) ≡ 2 ^ k * 256 = ap (λ (i : ℕ). 2 ^ i) up ∙ pow-add 2 k 8 in
    (m.0, omega (arith, m.1))

-- so there is one
pub marks-some : {bs : List ℕ} {n : ℕ} → Stop bs n → marks bs ≡ 0 → ⊥
marks-some {bs} {n} r e = omega (arith, (rw e at (marks-zeros r)), trailing_of_zero (length bs * 8))

-- and it is one of the bytes
pub stop-inside : {bs : List ℕ} {n : ℕ} → Stop bs n → n < length bs
stop-inside {bs} {n} r = omega (arith, marks-zeros r, trailing_le (length bs * 8) (marks bs))
