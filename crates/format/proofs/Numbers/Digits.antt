-- Digits in any base: from a number to its digits and back. Little-endian words, varints and packing rest on these laws, which are shown once, by induction on
-- the digits: a number is its lowest digit and the base times the rest.
use mathlib.Core.Path.{◌≡◌, refl, sym, ap, ap₂, ◌∙◌}
use Prim.Native.Nat.{ℕ, zero, suc, ◌+◌, ◌*◌, ◌/◌, ◌%◌, ◌^◌, ◌<◌}
use native.Mathlib.Nat.{zero-add, add_assoc, add_comm, one-mul, mul_comm, mul-add, mul_assoc, pow-zero, pow-suc, mod-one, mod-lt, mod-eq_of_lt, div-eq_of_lt, add-mul-div_left, add-mul-mod_self_left, zero-lt-suc, one-le-pow}
use mathlib.Core.List.{List, [], ◌∷◌, ◌++◌, map}
use lib.ListN.{length}
use lib.Arith.{mod-mul, digits_lt}
use Rattle.format.specs.Digits.{of_digits, digits}
use Rattle.format.proofs.Numbers.All.{all_none, all_more, Below}

-- so many digits
pub length_digits : (base n x : ℕ) → length (digits base n x) ≡ n
unfolding digits
length_digits base zero x = refl
length_digits base (suc n) x = ap suc (length_digits base n (x / base))

-- digits after digits
pub of_digits-append : (base : ℕ) (xs ys : List ℕ) → of_digits base (xs ++ ys) ≡ of_digits base xs + base ^ length xs * of_digits base ys
unfolding of_digits
of_digits-append base [] ys = simp (pow-zero, one-mul, zero-add)
of_digits-append base (x ∷ xs) ys =
    rw (of_digits-append base xs ys)
    (simp (mul-add, pow-suc, add_assoc, mul_comm (base ^ length xs) base, mul_assoc))

-- the digits of the number that they make
pub digits-of_digits : {base : ℕ} {ds : List ℕ} → zero < base → Below base ds → digits base (length ds) (of_digits base ds) ≡ ds
unfolding of_digits digits
digits-of_digits p all_none = refl
digits-of_digits {base} p (all_more {x = d} {xs = ds} h r) =
    ap₂ {A = ℕ} {B = List ℕ} (λ e es. e ∷ es)
    (add-mul-mod_self_left d base (of_digits base ds) ∙ mod-eq_of_lt h)
    (ap (digits base (length ds)) (add-mul-div_left d (of_digits base ds) p ∙ ap (λ (q : ℕ). q + of_digits base ds) (div-eq_of_lt h) ∙ zero-add _)
    ∙ digits-of_digits p r)

-- the number of the n lowest digits of x
pub of_digits-digits : (base n x : ℕ) → zero < base → of_digits base (digits base n x) ≡ x % base ^ n
unfolding of_digits digits
of_digits-digits base zero x p = simp (pow-zero, mod-one)
of_digits-digits base (suc n) x p =
    rw (of_digits-digits base n (x / base) p)
    (simp pow-suc (add_comm _ _ ∙ ap (λ (y : ℕ). y + x % base) (mul_comm base _) ∙ sym (mod-mul x (one-le-pow n base p) p)))

-- what stands above n digits is not seen by them
pub digits-ignore : (base n x k : ℕ) → zero < base → digits base n (x + base ^ n * k) ≡ digits base n x
unfolding digits
digits-ignore base zero x k p = refl
digits-ignore base (suc n) x k p =
    ap₂ {A = ℕ} {B = List ℕ} (λ e es. e ∷ es)
    (ap (λ (y : ℕ). (x + y) % base) (up base n k) ∙ add-mul-mod_self_left x base (base ^ n * k))
    (ap (λ (y : ℕ). digits base n ((x + y) / base)) (up base n k) ∙ ap (digits base n) (add-mul-div_left x (base ^ n * k) p) ∙ digits-ignore base n (x / base) k p)
  where
    up : (base n k : ℕ) → base ^ suc n * k ≡ base * (base ^ n * k)
    up base n k = ap (λ (y : ℕ). y * k) (pow-suc base n ∙ mul_comm (base ^ n) base) ∙ mul_assoc base (base ^ n) k

-- n digits make a number below base ^ n
pub of_digits-lt : {base : ℕ} {ds : List ℕ} → Below base ds → of_digits base ds < base ^ length ds
unfolding of_digits
of_digits-lt all_none = simp pow-zero (zero-lt-suc 0)
of_digits-lt {base} (all_more {x = d} {xs = ds} h r) =
    simp pow-suc (rw (add_comm d (base * of_digits base ds), mul_comm base (of_digits base ds)) (digits_lt (of_digits-lt r) h))

-- digits are below the base
pub below-digits : (base n x : ℕ) → 0 < base → Below base (digits base n x)
unfolding digits
below-digits base zero x p = all_none
below-digits base (suc n) x p = all_more (mod-lt x p) (below-digits base n (x / base) p)

-- and so are remainders
pub below-map : (base : ℕ) → zero < base → (vs : List ℕ) → Below base (map (λ v. v % base) vs)
below-map base p [] = all_none
below-map base p (v ∷ vs) = all_more (mod-lt v p) (below-map base p vs)
