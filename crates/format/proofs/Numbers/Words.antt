-- The sum of eight loads is the word at that place of the number that the bytes make: both have the same eight digits in base 256. Bytes past the end are the
-- zeros above the number.
use mathlib.Core.Path.{◌≡◌, refl, sym, ap, ap₂, ◌∙◌}
use Prim.Native.Nat.{ℕ, zero, suc, ◌+◌, ◌*◌, ◌/◌, ◌%◌, ◌^◌, ◌≤◌}
use native.Mathlib.Nat.{add-zero, add-suc, zero-lt-suc}
use native.Mathlib.Omega.{arith}
use mathlib.Core.List.{List, [], ◌∷◌}
use lib.ListN.{length, get_or, take, drop, length-drop}
use Rattle.format.specs.Digits.{of_digits, digits}
use Rattle.format.proofs.Numbers.All.{all_drop, Below}
use Rattle.format.proofs.Numbers.Digits.{of_digits-digits}
use Rattle.format.proofs.Numbers.Places.{div-suc, of_digits-drop, of_digits-take, of_digits-at}

-- the eight bytes from p on, lowest first; past the end they count 0
abbrev pub sum8 : List ℕ → ℕ → ℕ
sum8 s p =
    get_or s p 0 + get_or s (p + 1) 0 * 256 + get_or s (p + 2) 0 * 65536 + get_or s (p + 3) 0 * 16777216 + get_or s (p + 4) 0 * 4294967296
    + get_or s (p + 5) 0 * 1099511627776
    + get_or s (p + 6) 0 * 281474976710656
    + get_or s (p + 7) 0 * 72057594037927936

-- the k elements of s from p + j on, 0 past the end
unfoldable gather : ℕ → ℕ → ℕ → List ℕ → List ℕ
gather zero j p s = []
gather (suc k) j p s = get_or s (p + j) 0 ∷ gather k (suc j) p s

module _ (p : ℕ) {s : List ℕ} (h : Below 256 s) where
  gathered : (k j : ℕ) → digits 256 k (of_digits 256 s / 256 ^ (p + j)) ≡ gather k j p s
  unfolding gather digits
  gathered zero j = refl
  gathered (suc k) j =
      ap₂ (λ (m : ℕ) (l : List ℕ). m ∷ l) (of_digits-at (p + j) h)
      (ap (digits 256 k) (div-suc 256 (p + j) (of_digits 256 s) ∙ ap (λ (i : ℕ). of_digits 256 s / 256 ^ i) (sym (add-suc p j))) ∙ gathered k (suc j))

  pub word_sum : sum8 s p ≡ of_digits 256 s / 256 ^ p % 2 ^ 64
  unfolding gather of_digits
  word_sum =
      let e : of_digits 256 (gather 8 0 p s) ≡ of_digits 256 s / 256 ^ (p + 0) % 256 ^ 8
      = ap (of_digits 256) (sym (gathered 8 0)) ∙ of_digits-digits 256 8 (of_digits 256 s / 256 ^ (p + 0)) (zero-lt-suc 255) in
      let f = rw (add-zero p) at e in
      omega (arith, f)

  -- eight bytes that are there
  pub word-taken : p + 8 ≤ length s → sum8 s p ≡ of_digits 256 (take 8 (drop p s))
  word-taken l =
      let room : 8 ≤ length (drop p s) = simp length-drop (omega arith) in
      word_sum ∙ ap (λ (n : ℕ). n % 2 ^ 64) (sym (of_digits-drop p h)) ∙ sym (of_digits-take 8 (all_drop p h) room)
