-- Digits in any base, cut at a place: the digits of a number below and above it, and the number of a list's digits from it on. Shown by induction on the place;
-- one digit is the quotient and the remainder by the base.
use mathlib.Core.Path.{◌≡◌, sym, ap, ◌∙◌}
use Prim.Native.Nat.{ℕ, zero, suc, ◌+◌, ◌*◌, ◌/◌, ◌%◌, ◌^◌, ◌≤◌, ◌<◌}
use native.Mathlib.Nat.{zero-add, add-zero, suc-add, add_comm, zero-mul, suc-mul, mul_comm, pow-zero, pow-suc, pow-succ', div-one, zero-div, zero-mod, div-div-eq-div-mul, mod-add-div, mod-eq_of_lt, add-mul-mod_self_left}
use mathlib.Core.List.{List, ◌++◌}
use lib.ListN.{length, get_or, take, drop, take-append-drop}
use lib.Seq.{get_or-drop, length-take-le}
use lib.Pow.{pow-add}
use lib.Arith.{digits_div}
use Rattle.format.specs.Digits.{of_digits, digits}
use Rattle.format.proofs.Numbers.All.{all_none, all_more, all_take, all_drop, Below}
use Rattle.format.proofs.Numbers.Digits.{of_digits-append, of_digits-lt, digits-ignore}

-- ---- powers

pub pow-pow : (b i j : ℕ) → (b ^ i) ^ j ≡ b ^ (j * i)
pow-pow b i zero = simp (pow-zero, zero-mul)
pow-pow b i (suc j) = rw (pow-suc (b ^ i) j, pow-pow b i j, suc-mul j i) (sym (pow-add b (j * i) i))

-- n bytes are 8 * n bits
pub pow-256 : (n : ℕ) → 256 ^ n ≡ 2 ^ (n * 8)
pow-256 n = pow-pow 2 8 n

-- one place further up
pub div-suc : (b i x : ℕ) → x / b ^ i / b ≡ x / b ^ suc i
div-suc b i x = rw (pow-suc b i) (div-div-eq-div-mul x (b ^ i) b)

-- ---- the digits of a number

-- the j lowest, and the others
pub digits-add : (b j k x : ℕ) → digits b (j + k) x ≡ digits b j x ++ digits b k (x / b ^ j)
unfolding digits
digits-add b zero k x = rw (zero-add k, pow-zero b, div-one x)
digits-add b (suc j) k x = rw (suc-add j k, digits-add b j k (x / b), div-div-eq-div-mul x b (b ^ j), pow-succ' b j)

-- the k lowest are those of the remainder
pub digits-mod-pow : (b k x : ℕ) → 0 < b → digits b k (x % b ^ k) ≡ digits b k x
digits-mod-pow b k x h = sym (digits-ignore b k (x % b ^ k) (x / b ^ k) h) ∙ ap (digits b k) (mod-add-div x (b ^ k))

-- ---- the number of a list of digits

module _ {b : ℕ} where
  -- the digits from place p on
  pub of_digits-drop : {ds : List ℕ} (p : ℕ) → Below b ds → of_digits b (drop p ds) ≡ of_digits b ds / b ^ p
  unfolding of_digits
  of_digits-drop {ds} zero h = rw (pow-zero b, div-one (of_digits b ds))
  of_digits-drop (suc p) all_none = sym (zero-div (b ^ suc p))
  of_digits-drop (suc p) (all_more {x = d} {xs = ds} h r) =
      let X = of_digits b ds in
      of_digits-drop p r
      ∙ ap (λ (y : ℕ). y / b ^ p) (sym (digits_div X h) ∙ ap (λ (y : ℕ). y / b) (add_comm (X * b) d ∙ ap (λ (y : ℕ). d + y) (mul_comm X b)))
      ∙ div-div-eq-div-mul (d + b * X) b (b ^ p)
      ∙ ap (λ (y : ℕ). (d + b * X) / y) (sym (pow-succ' b p))

  -- the digits below place p, where so many are there
  pub of_digits-take : {ds : List ℕ} (p : ℕ) → Below b ds → p ≤ length ds → of_digits b (take p ds) ≡ of_digits b ds % b ^ p
  of_digits-take {ds} p h l =
      let e : length (take p ds) ≡ p = length-take-le p ds l in
      let small : of_digits b (take p ds) < b ^ p = rw e at (of_digits-lt (all_take p h)) in
      let whole : of_digits b ds ≡ of_digits b (take p ds) + b ^ p * of_digits b (drop p ds)
      = ap (of_digits b) (sym (take-append-drop p ds)) ∙ of_digits-append b (take p ds) (drop p ds)
      ∙ ap (λ (n : ℕ). of_digits b (take p ds) + b ^ n * of_digits b (drop p ds)) e in
      sym (ap (λ (n : ℕ). n % b ^ p) whole ∙ add-mul-mod_self_left (of_digits b (take p ds)) (b ^ p) (of_digits b (drop p ds)) ∙ mod-eq_of_lt small)

  lowest : {ds : List ℕ} → Below b ds → of_digits b ds % b ≡ get_or ds 0 0
  unfolding of_digits
  lowest all_none = zero-mod b
  lowest (all_more {x = d} {xs = ds} h r) = add-mul-mod_self_left d b (of_digits b ds) ∙ mod-eq_of_lt h

  -- the digit at place p, 0 past the last
  pub of_digits-at : {ds : List ℕ} (p : ℕ) → Below b ds → of_digits b ds / b ^ p % b ≡ get_or ds p 0
  of_digits-at {ds} p h = rw (← of_digits-drop p h, lowest (all_drop p h), get_or-drop p ds 0 0, add-zero p)
