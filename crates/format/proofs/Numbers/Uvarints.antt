-- Varints: the written form has the number's length and its bytes are bytes, and reading gives the number back where that form occurs. The groups are digits in
-- base 128; the walk to the end stops at the first byte below 128, which is the last group; and the last group is not 0, since no fewer groups hold the number.
use mathlib.Core.Path.{◌≡◌, refl, sym, ap, ap₂, ◌∙◌}
use mathlib.Core.Bool.{Bool, true, not, ◌||◌}
use mathlib.Core.List.{List, [], ◌∷◌, ◌++◌, map}
use Prim.Native.Nat.{ℕ, zero, suc, ◌+◌, ◌-◌, ◌/◌, ◌%◌, ◌^◌, ◌≤◌, ◌<◌}
use native.Mathlib.Nat.{zero-add, suc-add, mul_comm, one-mul, mod-lt, mod-eq_of_lt, div-one, div-div-eq-div-mul, le-div_iff_mul-le, div-lt_iff_lt-mul, one-le-pow, le_of_eq, le_trans, lt_of_lt_of_le, zero-lt-suc, not-suc-le-zero, pow-suc}
use native.Mathlib.Omega.{arith}
use lib.Dec.{eqb}
use lib.ListN.{length, get_or, take, drop}
use lib.Seq.{slice, take-nil, get_or-drop, take_at}
use borrow.Author.Tests.{lt-ltb, le-ltb, ne_eqb, eq-eqb}
use Rattle.format.specs.Outcome.{Outcome, ok, ◌>>=◌, value_or}
use Rattle.format.specs.Digits.{of_digits, digits}
use Rattle.format.specs.Varint.{Uvarint, uvarint_len, continued, uvarint_bytes, uvarint_end, uvarint_value, ends_unpadded, read_uvarint, uvarint_at}
use Rattle.format.proofs.Numbers.All.{all_none, all_more, Below}
use Rattle.format.proofs.Numbers.Digits.{length_digits, below-digits, of_digits-digits}
use Rattle.format.proofs.Numbers.Occurs.{Occurs}
use Rattle.format.proofs.Numbers.Widths.{uvarint_len-pos, uvarint_len_le, uvarint_len-lt, uvarint_len-tight}

-- ---- what is written

-- continuation bits add no byte
length-continued : (gs : List ℕ) → length (continued gs) ≡ length gs
unfolding continued
length-continued [] = refl
length-continued (g ∷ []) = refl
length-continued (g ∷ h ∷ gs) = ap suc (length-continued (h ∷ gs))

-- without them the groups are there again
groups-continued : {gs : List ℕ} → Below 128 gs → map (λ b. b % 128) (continued gs) ≡ gs
unfolding continued
groups-continued all_none = refl
groups-continued (all_more {x = d} h all_none) = ap (λ (g : ℕ). g ∷ []) (mod-eq_of_lt h)
groups-continued (all_more {x = d} h (all_more k r)) =
    let m : (d + 128) % 128 ≡ d = omega arith in
    ap₂ {A = ℕ} {B = List ℕ} (λ g gs. g ∷ gs) m (groups-continued (all_more k r))

-- with them the groups are bytes
below-continued : {gs : List ℕ} → Below 128 gs → Below 256 (continued gs)
unfolding continued
below-continued all_none = all_none
below-continued (all_more {x = d} h all_none) = let b : d < 256 = omega arith in all_more b all_none
below-continued (all_more {x = d} h (all_more k r)) = let b : d + 128 < 256 = omega arith in all_more b (below-continued (all_more k r))

-- a varint has the length of its number
pub length-uvarint_bytes : (x : ℕ) → length (uvarint_bytes x) ≡ uvarint_len x
unfolding uvarint_bytes
length-uvarint_bytes x = length-continued (digits 128 (uvarint_len x) x) ∙ length_digits 128 (uvarint_len x) x

-- which is one byte at least
pub uvarint_bytes-some : (x : ℕ) → 0 < length (uvarint_bytes x)
uvarint_bytes-some x = omega (arith, length-uvarint_bytes x, uvarint_len-pos x)

-- its bytes are bytes
pub below-uvarint_bytes : (x : ℕ) → Below 256 (uvarint_bytes x)
unfolding uvarint_bytes
below-uvarint_bytes x = below-continued (below-digits 128 (uvarint_len x) x (zero-lt-suc 127))

-- ---- where it ends, and its last group

-- the walk stops at the last of the groups, if so many bytes may come
end-continued : (start left n x at : ℕ) (rest : List ℕ) → n < left → uvarint_end start left (continued (digits 128 (suc n) x) ++ rest) at ≡ ok (at + suc n)
unfolding uvarint_end continued digits
end-continued start zero n x at rest h = absurd (not-suc-le-zero h)
end-continued start (suc left) zero x at rest h = rw (lt-ltb (x % 128) 128 (mod-lt x (zero-lt-suc 127)))
end-continued start (suc left) (suc n) x at rest h =
    let k : 128 ≤ x % 128 + 128 = omega arith in
    let e : at + 1 + suc n ≡ at + suc (suc n) = omega arith in
    rw (le-ltb (x % 128 + 128) 128 k) (end-continued start left n (x / 128) (at + 1) rest (omega arith) ∙ ap ok e)

-- the last group is the number's highest digit
last-continued : (n x : ℕ) (rest : List ℕ) → get_or (continued (digits 128 (suc n) x) ++ rest) n 0 ≡ x / 128 ^ n % 128
unfolding continued digits
last-continued zero x rest = ap (λ (y : ℕ). y % 128) (sym (div-one x))
last-continued (suc n) x rest =
    last-continued n (x / 128) rest
    ∙ ap (λ (y : ℕ). y % 128) (div-div-eq-div-mul x 128 (128 ^ n) ∙ ap (λ (y : ℕ). x / y) (mul_comm 128 (128 ^ n) ∙ sym (pow-suc 128 n)))

-- a part from a place on
pub slice-drop : (at n : ℕ) (s : List ℕ) → slice at (at + n) s ≡ take n (drop at s)
slice-drop zero n s = ap (λ (k : ℕ). take k s) (zero-add n)
slice-drop (suc at) n [] = ap (λ (l : List ℕ). drop (suc at) l) (take-nil (suc at + n)) ∙ sym (take-nil n)
slice-drop (suc at) n (x ∷ s) = ap (λ (k : ℕ). drop (suc at) (take k (x ∷ s))) (suc-add at n) ∙ slice-drop at n s

-- ---- read back

-- where n groups do not hold x and n + 1 do, the last group is not 0; with one group there is nothing to show
unpadded-last :
    (at n x : ℕ) → x < 128 ^ suc n → ((m : ℕ) → n ≡ suc m → 128 ^ n ≤ x) → eqb (at + suc n) (at + 1) || not (eqb (x / 128 ^ n % 128) 0) ≡ true
unpadded-last at zero x h f = rw (eq-eqb (at + 1) (at + 1) refl)
unpadded-last at (suc n) x h f =
    let p : 128 ^ suc n ≤ x = f n refl in
    let q : 1 ≤ x / 128 ^ suc n = (le-div_iff_mul-le (one-le-pow (suc n) 128 (zero-lt-suc 127))).1 (le_trans (le_of_eq (one-mul (128 ^ suc n))) p) in
    let r : x / 128 ^ suc n < 128
    = (div-lt_iff_lt-mul (one-le-pow (suc n) 128 (zero-lt-suc 127))).1 (lt_of_lt_of_le h (le_of_eq (pow-suc 128 (suc n) ∙ mul_comm (128 ^ suc n) 128))) in
    let z : x / 128 ^ suc n % 128 ≡ 0 → ⊥ = λ w. omega arith in
    rw (ne_eqb (at + suc (suc n)) (at + 1) (λ w. omega arith), ne_eqb (x / 128 ^ suc n % 128) 0 z)

-- what reading finds in s between two places
abbrev found_in : List ℕ → ℕ → ℕ → Outcome Uvarint
found_in s at n = ok (record { value = uvarint_value s at n; next = n; unpadded = ends_unpadded s at n })

module _ (s : List ℕ) (at n x : ℕ) (rest : List ℕ) (e : drop at s ≡ continued (digits 128 (suc n) x) ++ rest) where
  -- the groups' sum is x,
  value-groups : x < 2 ^ 64 → x < 128 ^ suc n → uvarint_value s at (at + suc n) ≡ x
  unfolding uvarint_value
  value-groups h k =
      let gs : List ℕ = digits 128 (suc n) x in
      let p : slice at (at + suc n) s ≡ continued gs
      = slice-drop at (suc n) s ∙ ap (take (suc n)) e ∙ take_at (continued gs) rest (suc n) (length-continued gs ∙ length_digits 128 (suc n) x) in
      ap (λ (l : List ℕ). of_digits 128 (map (λ b. b % 128) l) % 2 ^ 64) p
      ∙ ap (λ (l : List ℕ). of_digits 128 l % 2 ^ 64) (groups-continued (below-digits 128 (suc n) x (zero-lt-suc 127)))
      ∙ ap (λ (y : ℕ). y % 2 ^ 64) (of_digits-digits 128 (suc n) x (zero-lt-suc 127) ∙ mod-eq_of_lt k)
      ∙ mod-eq_of_lt h

  -- the last of them is not 0,
  unpadded-groups : x < 128 ^ suc n → ((m : ℕ) → n ≡ suc m → 128 ^ n ≤ x) → ends_unpadded s at (at + suc n) ≡ true
  unfolding ends_unpadded
  unpadded-groups h f =
      let k : at + suc n - 1 ≡ at + n = omega arith in
      let p : get_or s (at + suc n - 1) 0 ≡ x / 128 ^ n % 128
      = ap (λ (m : ℕ). get_or s m 0) k ∙ sym (get_or-drop at s n 0) ∙ ap (λ (l : List ℕ). get_or l n 0) e ∙ last-continued n x rest in
      ap (λ (y : ℕ). eqb (at + suc n) (at + 1) || not (eqb y 0)) p ∙ unpadded-last at n x h f

  -- so they are read
  read-groups :
      n < 10 → x < 2 ^ 64 → x < 128 ^ suc n → ((m : ℕ) → n ≡ suc m → 128 ^ n ≤ x)
      → read_uvarint s at ≡ ok (record { value = x; next = at + suc n; unpadded = true })
  unfolding read_uvarint
  read-groups b h k f =
      ap (λ (l : List ℕ). uvarint_end at 10 l at >>= found_in s at) e
      ∙ ap (λ (o : Outcome ℕ). o >>= found_in s at) (end-continued at 10 n x at rest b)
      ∙ ap₂ (λ (v : ℕ) (t : Bool). ok (record { value = v; next = at + suc n; unpadded = t })) (value-groups h k) (unpadded-groups k f)

-- what reading finds at `at`, where the varint of x was written there
abbrev pub uvarint_written : ℕ → ℕ → Uvarint
uvarint_written at x = record { value = x; next = at + length (uvarint_bytes x); unpadded = true }

module _ {s : List ℕ} {at : ℕ} (x : ℕ) (h : x < 2 ^ 64) (o : Occurs s at (uvarint_bytes x)) where
  -- READ BACK: where a varint was written, it is read, whatever stands before and after
  pub read_uvarint-back : read_uvarint s at ≡ ok (uvarint_written at x)
  unfolding uvarint_bytes
  read_uvarint-back = go (uvarint_len x) refl
    where
      go : (l : ℕ) → uvarint_len x ≡ l → read_uvarint s at ≡ ok (uvarint_written at x)
      go zero d = absurd (omega (arith, uvarint_len-pos x))
      go (suc n) d =
          let b : n < 10 = omega (arith, uvarint_len_le x) in
          let k : x < 128 ^ suc n = rw d at (uvarint_len-lt x h) in
          let f : (m : ℕ) → n ≡ suc m → 128 ^ n ≤ x = λ m z. rw z (uvarint_len-tight x m (d ∙ ap suc z)) in
          let e : drop at s ≡ continued (digits 128 (suc n) x) ++ o.rest = rw d at o.here in
          rw (length-uvarint_bytes x, d) (read-groups s at n x o.rest e b h k f)

  -- the same for what is read again
  pub uvarint_at-back : uvarint_at s at ≡ uvarint_written at x
  unfolding uvarint_at
  uvarint_at-back = ap (λ (r : Outcome Uvarint). value_or (record { value = 0; next = 0; unpadded = true }) r) read_uvarint-back
