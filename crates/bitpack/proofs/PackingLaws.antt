-- The laws of packing, for any width: packed values are found again in the middle of any bytes; eight values fill whole bytes, so what is packed or read after a
-- multiple of eight values is packed or read by itself. Packed bytes and values are the digits of one number, `number w vs`, in base 256 and in base 2 ^ w.
use mathlib.Core.Path.{◌≡◌, sym, ap, ap₂, ◌∙◌}
use Prim.Native.Nat.{ℕ, ◌+◌, ◌*◌, ◌/◌, ◌%◌, ◌^◌, ◌<◌}
use native.Mathlib.Nat.{mul_assoc, mul_comm, add-mul, zero-add, div-eq_of_lt, add-mul-div_left, one-le-pow, zero-lt-suc}
use native.Mathlib.Omega.{arith}
use mathlib.Core.List.{List, [], ◌++◌, map, map-append}
use lib.ListN.{length, drop, length-append, length-map}
use lib.Seq.{drop-append_seam}
use lib.Pow.{pow_pos}
use Rattle.format.specs.Digits.{of_digits, digits}
use Rattle.format.specs.Packing.{packed_len, packed, unpacked}
use Rattle.format.proofs.Numbers.All.{Below}
use Rattle.format.proofs.Numbers.Digits.{of_digits-append, of_digits-lt, digits-ignore, below-map}
use Rattle.format.proofs.Numbers.Extremes.{mod_below}
use Rattle.format.proofs.Numbers.Packing.{unpacked-packed}
use Rattle.format.proofs.Numbers.Places.{pow-pow, pow-256, digits-add, of_digits-drop}

-- ---- read back

-- in the middle of any bytes: the values without their bits above the width
pub unpacked-middle : (w : ℕ) (pre vs rest : List ℕ) → unpacked w (length vs) (drop (length pre) (pre ++ (packed w vs ++ rest))) ≡ map (λ v. v % 2 ^ w) vs
unpacked-middle w pre vs rest = ap (unpacked w (length vs)) (drop-append_seam pre (packed w vs ++ rest)) ∙ unpacked-packed w vs rest

-- values that fit the width come back as they were
pub unpacked-fitting : (w : ℕ) {vs : List ℕ} (rest : List ℕ) → Below (2 ^ w) vs → unpacked w (length vs) (packed w vs ++ rest) ≡ vs
unpacked-fitting w {vs} rest h = unpacked-packed w vs rest ∙ mod_below h

-- ---- no bytes

pub packed_none : (w : ℕ) (vs : List ℕ) → packed_len (length vs) w ≡ 0 → packed w vs ≡ []
unfolding packed digits
packed_none w vs e = ap (λ (n : ℕ). digits 256 n (of_digits (2 ^ w) (map (λ v. v % 2 ^ w) vs))) e

-- ---- the number of packed values

unfoldable pub number : ℕ → List ℕ → ℕ
number w vs = of_digits (2 ^ w) (map (λ v. v % 2 ^ w) vs)

module _ (w : ℕ) where
  pub number_lt : (vs : List ℕ) → number w vs < 2 ^ (length vs * w)
  unfolding number
  number_lt vs = rw (← pow-pow 2 w (length vs), ← length-map vs (λ v. v % 2 ^ w)) (of_digits-lt (below-map (2 ^ w) (pow_pos w) vs))

  pub number_append : (xs ys : List ℕ) → number w (xs ++ ys) ≡ number w xs + 2 ^ (length xs * w) * number w ys
  unfolding number
  number_append xs ys =
      let cut : ℕ → ℕ = λ v. v % 2 ^ w in
      rw (map-append cut xs ys, of_digits-append (2 ^ w) (map cut xs) (map cut ys), length-map xs cut, pow-pow 2 w (length xs))

  -- ---- a multiple of eight values

  module _ (k : ℕ) where
    bits-8 : 8 * k * w ≡ k * w * 8
    bits-8 = mul_assoc 8 k w ∙ mul_comm 8 (k * w)

    -- they fill k * w bytes
    power-8 : 256 ^ (k * w) ≡ 2 ^ (8 * k * w)
    power-8 = pow-256 (k * w) ∙ ap (λ (n : ℕ). 2 ^ n) (sym bits-8)

    -- packed before others
    pub packed-append : (xs ys : List ℕ) → length xs ≡ 8 * k → packed w (xs ++ ys) ≡ packed w xs ++ packed w ys
    unfolding packed packed_len number
    packed-append xs ys e =
        let X = number w xs in
        let Y = number w ys in
        let n = packed_len (length ys) w in
        let p : 2 ^ (length xs * w) ≡ 256 ^ (k * w) = ap (λ (i : ℕ). 2 ^ (i * w)) e ∙ sym power-8 in
        let small : X < 256 ^ (k * w) = rw p at (number_lt xs) in
        let el : packed_len (length xs) w ≡ k * w = omega (arith, ap (λ (i : ℕ). i * w) e, bits-8) in
        let en : packed_len (length (xs ++ ys)) w ≡ k * w + n
        = omega (arith, ap (λ (i : ℕ). i * w) (length-append xs ys) ∙ add-mul (length xs) (length ys) w, ap (λ (i : ℕ). i * w) e, bits-8) in
        let over : (X + 256 ^ (k * w) * Y) / 256 ^ (k * w) ≡ Y
        = add-mul-div_left X Y (one-le-pow (k * w) 256 (zero-lt-suc 255)) ∙ ap (λ (i : ℕ). i + Y) (div-eq_of_lt small) ∙ zero-add Y in
        ap₂ (digits 256) en (number_append xs ys ∙ ap (λ (i : ℕ). X + i * Y) p)
        ∙ digits-add 256 (k * w) n (X + 256 ^ (k * w) * Y)
        ∙ ap₂ (λ (a b : List ℕ). a ++ b) (digits-ignore 256 (k * w) X Y (zero-lt-suc 255) ∙ ap (λ (i : ℕ). digits 256 i X) (sym el)) (ap (digits 256 n) over)

    -- read before others
    pub unpacked-append : (n : ℕ) {body : List ℕ} → Below 256 body → unpacked w (8 * k + n) body ≡ unpacked w (8 * k) body ++ unpacked w n (drop (k * w) body)
    unfolding unpacked
    unpacked-append n {body} h = rw (digits-add (2 ^ w) (8 * k) n (of_digits 256 body), pow-pow 2 w (8 * k), ← power-8, ← of_digits-drop (k * w) h)
