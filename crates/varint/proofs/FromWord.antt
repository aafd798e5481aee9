-- What `read_word` finds in the eight bytes x of s from `at` on: the place of the varint's last byte and its value, or, where none of the eight is the last, the
-- state after them. x is the number of those bytes, so masks and shifts of x are parts of their list.
use Rattle.std.proofs.Common.{◌≡◌, ℕ, suc, ◌+◌, ◌-◌, ◌*◌, ◌/◌, ◌%◌, ◌^◌, ◌<◌, ◌≤◌, not, eqb, ◌⊎◌, List, ◌∷◌, map, length, get_or, take, drop, sym, ap, ◌∙◌, ap₂, inl, inr, le_refl, lt_of_lt_of_le, add-zero, mod-eq_of_lt, zero-lt-suc, mul_comm, one-mul, pow-suc, zero-add, zero-mul, arith, length-drop, take-append-drop, length-take-le, get_or-drop, get_or-take, take-take, drop-drop, pow_pos, pow_mono}
use lib.Bits.{and_le_r, bit_and, bit_xor, and_mask, xor_block, xor_self, xor_shifted}
use lib.Count.{count_trailing_zeros}
use lib.ListN.{length-map}
use lib.Pow.{ones_lt}
use lib.Seq.{slice-cons, slice_empty}
use Rattle.format.specs.Digits.{of_digits}
use Rattle.format.specs.Varint.{uvarint_value, read_uvarint}
use Rattle.format.proofs.Numbers.All.{all_take, all_drop, Below}
use Rattle.format.proofs.Numbers.Digits.{of_digits-lt, below-map}
use Rattle.format.proofs.Numbers.Places.{pow-256, of_digits-take, of_digits-drop}
use Rattle.format.proofs.Numbers.Uvarints.{slice-drop}
use Rattle.format.proofs.Numbers.Widths.{pow-128}
use Rattle.varint.specs.Reading.{Reading, groups8}
use Rattle.varint.proofs.Reading.{was_read, answer_more}
use Rattle.varint.proofs.Pairs.{groups_of}
use Rattle.varint.proofs.Stops.{Stop, Continued, stops, stop-inside, stop-after, walk-stop, walk-on, tops, marks, marked, marks-none, marks-some, marks-zeros, marks-lowest}

-- ---- masks and parts

-- where the lowest bit set in e is the top bit of byte n, e and e - 1 differ in the n + 1 lowest bytes
low-bytes : (x M n f : ℕ) {e : ℕ} → e ≡ M * 2 ^ suc (n * 8 + 7) + 2 ^ (n * 8 + 7) → f + 1 ≡ e → bit_and x (bit_xor e f) ≡ x % 256 ^ suc n
low-bytes x M n f {e} h g =
    let k : ℕ = n * 8 + 7 in
    let some : 1 ≤ 2 ^ (n * 8 + 7) = pow_pos (n * 8 + 7) in
    let twice : 2 ^ suc (n * 8 + 7) ≡ 2 ^ (n * 8 + 7) * 2 = pow-suc 2 (n * 8 + 7) in
    let less : f ≡ M * 2 ^ suc (n * 8 + 7) + (2 ^ (n * 8 + 7) - 1) = omega arith in
    let low : bit_xor (2 ^ k) (2 ^ k - 1) ≡ 2 ^ suc k - 1
    = ap (λ (i : ℕ). bit_xor i (2 ^ k - 1)) (sym (one-mul (2 ^ k))) ∙ xor_shifted 1 k (2 ^ k - 1) (ones_lt k) ∙ omega arith in
    let mask : bit_xor e f ≡ 2 ^ suc k - 1
    = ap₂ bit_xor h less
    ∙ xor_block (suc k) M M (2 ^ k) (2 ^ k - 1) (omega arith) (omega arith)
    ∙ ap₂ (λ (u v : ℕ). u * 2 ^ suc k + v) (xor_self M) low
    ∙ simp (zero-mul, zero-add) in
    let all : suc (n * 8 + 7) ≡ suc n * 8 = omega arith in
    ap (bit_and x) mask ∙ and_mask x (suc k) ∙ ap (λ (i : ℕ). x % 2 ^ i) all ∙ ap (λ (i : ℕ). x % i) (sym (pow-256 (suc n)))

-- ---- the bytes

-- the top bit of each byte below 128, as `read_word` has them
abbrev pub ends : ℕ → ℕ
ends x = bit_and (2 ^ 64 - 1 - x) 9259542123273814144

-- less 1, as it wraps
abbrev below_ends : ℕ → ℕ
below_ends x = (ends x + (2 ^ 64 - 1)) % 2 ^ 64

-- the eight from `at` on
abbrev pub eight_from : List ℕ → ℕ → List ℕ
eight_from s at = take 8 (drop at s)

module _ {s : List ℕ} (at : ℕ) (below : Below 256 s) where
  -- the groups of k of them
  value-word : (k : ℕ) → k ≤ 8 → at + k ≤ length s → groups8 (of_digits 256 (take k (drop at s))) ≡ uvarint_value s at (at + k)
  unfolding uvarint_value
  value-word k h room =
      let bs = take k (drop at s) in
      let l : length bs ≡ k = length-take-le k (drop at s) (simp length-drop (omega arith)) in
      let m : length (map (λ b. b % 128) bs) ≡ k = simp length-map l in
      let small : of_digits 128 (map (λ b. b % 128) bs) < 128 ^ k = rw m at (of_digits-lt (below-map 128 (zero-lt-suc 127) bs)) in
      let few : k * 7 ≤ 64 = omega arith in
      groups_of 8 (all_take k (all_drop at below)) (omega arith)
      ∙ sym (mod-eq_of_lt (lt_of_lt_of_le (rw (pow-128 k) at small) (pow_mono few)))
      ∙ ap (λ (t : List ℕ). of_digits 128 (map (λ b. b % 128) t) % 2 ^ 64) (sym (slice-drop at k s))

  -- the byte at n, above the n before it
  last_byte : (n : ℕ) → at + n < length s → of_digits 256 (take (suc n) (drop at s)) / 2 ^ (8 * n) ≡ get_or s (at + n) 0
  unfolding of_digits
  last_byte n h =
      let l : suc n ≤ length (drop at s) = simp length-drop (omega arith) in
      let k : n < suc n = omega arith in
      let p : 2 ^ (8 * n) ≡ 256 ^ n = ap (λ (i : ℕ). 2 ^ i) (mul_comm 8 n) ∙ sym (pow-256 n) in
      ap (λ (i : ℕ). of_digits 256 (take (suc n) (drop at s)) / i) p
      ∙ sym (of_digits-drop n (all_take (suc n) (all_drop at below)))
      ∙ ap (of_digits 256) (slice-cons n (suc n) (drop at s) 0 k l ∙ ap (λ (t : List ℕ). get_or (drop at s) n 0 ∷ t) (slice_empty (suc n) (drop at s)))
      ∙ rw (get_or-drop at s n 0) (omega arith)

  -- x are eight
  module _ (room : at + 10 ≤ length s) {x : ℕ} (word-is : x ≡ of_digits 256 (take 8 (drop at s))) where
    eight : length (eight_from s at) ≡ 8
    eight = length-take-le 8 (drop at s) (simp length-drop (omega arith))

    bytes : Below 256 (eight_from s at)
    bytes = all_take 8 (all_drop at below)

    ends_is : ends x ≡ marks (eight_from s at)
    unfolding tops
    ends_is = ap ends word-is ∙ (rw eight at (marked bytes))

    -- none of the eight is the last
    all-is : ends x ≡ 0 → bit_and x (bit_xor (ends x) (below_ends x)) ≡ of_digits 256 (eight_from s at)
    all-is z =
        let most : below_ends x ≡ 2 ^ 64 - 1 = omega arith in
        let small : x < 2 ^ 64 = rw (sym word-is) at (rw eight at (of_digits-lt bytes)) in
        ap₂ (λ (u v : ℕ). bit_and x (bit_xor u v)) z most ∙ and_mask x 64 ∙ mod-eq_of_lt small ∙ word-is

    pub word_over : ends x ≡ 0 → Reading s at (groups8 (bit_and x (bit_xor (ends x) (below_ends x)))) (at + 8) 56
    word_over z = go (stops (eight_from s at))
      where
        go : Continued (eight_from s at) ⊎ ((n : ℕ) × Stop (eight_from s at) n) → Reading s at (groups8 (bit_and x (bit_xor (ends x) (below_ends x)))) (at + 8) 56
        go (inl r) =
            record {
              left = 2;
              places = omega arith;
              begun = omega arith;
              inside = omega arith;
              weight = omega arith;
              sum = ap groups8 (all-is z) ∙ value-word 8 (le_refl 8) (omega arith);
              walk = rw (eight, take-append-drop 8 (drop at s), drop-drop 8 at s) at (walk-on at 2 (drop 8 (drop at s)) at r);
            }
        go (inr r) = absurd (marks-some r.1 (sym ends_is ∙ z))

    -- one is, and the zeros tell which
    pub word_stop : (ends x ≡ 0 → ⊥) → Stop (eight_from s at) (count_trailing_zeros 64 (ends x) / 8)
    word_stop z = go (stops (eight_from s at))
      where
        go : Continued (eight_from s at) ⊎ ((n : ℕ) × Stop (eight_from s at) n) → Stop (eight_from s at) (count_trailing_zeros 64 (ends x) / 8)
        go (inl r) = absurd (z (ends_is ∙ marks-none r))
        go (inr r) =
            let p : count_trailing_zeros 64 (ends x) ≡ r.0 * 8 + 7
            = ap (count_trailing_zeros 64) ends_is ∙ (rw eight at (marks-zeros r.1)) in
            let q : count_trailing_zeros 64 (ends x) / 8 ≡ r.0 = omega arith in
            rw q r.1

    module _ {n : ℕ} (r : Stop (eight_from s at) n) where
      pub word-place : n < 8
      word-place = rw eight at (stop-inside r)

      -- the bytes up to it
      low-is : bit_and x (bit_xor (ends x) (below_ends x)) ≡ of_digits 256 (take (suc n) (drop at s))
      low-is =
          let h : suc n ≤ 8 = word-place in
          let m = marks-lowest r in
          let some : 1 ≤ 2 ^ (n * 8 + 7) = pow_pos (n * 8 + 7) in
          let shape : ends x ≡ m.0 * 2 ^ suc (n * 8 + 7) + 2 ^ (n * 8 + 7) = ends_is ∙ m.1 in
          low-bytes x m.0 n (below_ends x) shape (omega (arith, shape, some, and_le_r (2 ^ 64 - 1 - x) 9259542123273814144))
          ∙ ap (λ (y : ℕ). y % 256 ^ suc n) word-is
          ∙ sym (of_digits-take (suc n) bytes (rw eight h))
          ∙ ap (of_digits 256) (take-take (suc n) 8 (drop at s) h)

      pub word_answer : 128 ≤ get_or s at 0 → let y = bit_and x (bit_xor (ends x) (below_ends x)) in
          was_read (groups8 y) (at + n + 1) (not (eqb (y / 2 ^ (8 * n)) 0)) ≡ read_uvarint s at
      word_answer first =
          let h : n < 8 = word-place in
          let p : 0 < n = stop-after r (rw (get_or-take 8 (drop at s) 0 0 (zero-lt-suc 7), get_or-drop at s 0 0, add-zero at) first) in
          let v : groups8 (of_digits 256 (take (suc n) (drop at s))) ≡ uvarint_value s at (at + n + 1)
          = value-word (suc n) h (omega arith) ∙ ap (uvarint_value s at) (omega arith) in
          rw (low-is, v, last_byte n (omega arith))
          (answer_more s at (at + n) (omega arith) (rw (eight, take-append-drop 8 (drop at s)) at (walk-stop at 2 (drop 8 (drop at s)) at r)))
