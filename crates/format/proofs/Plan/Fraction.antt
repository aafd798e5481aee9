-- CR 13: the f64 test of gain is a test on whole numbers, for a plain length n and a length m of up to 134,217,734. 1.0 less the gain is the f64 M / 2 ^ 53,
-- which is very near to a fraction p / q; the product n * M / 2 ^ 53 is rounded once, and compared with m.
-- If q * m ≤ p * n, the product is m or above, or below m by less than half of its last digit, so it is rounded to m or above. If p * n < q * m, then m exceeds
-- n * p / q by 1/100 at least, so the product is at most m - 1/256; that is an f64, so the product is rounded to it or below.
use mathlib.Core.Path.{◌≡◌, refl, sym, ap, ◌∙◌, subst}
use mathlib.Core.Logic.{inl, inr}
use Prim.Native.Nat.{ℕ, suc, ◌+◌, ◌-◌, ◌*◌, ◌^◌, ◌≤◌, ◌<◌, zero-le}
use native.Mathlib.Nat.{le_trans, le_of_eq, lt_of_lt_of_le, lt_of_le_of_lt, lt_irrefl, eq-zero-or-pos, mul_comm, mul_assoc, mul_left_comm, mul_right_comm, mul-one, mul-add, add-mul, suc-mul, mul-le-mul_right, mul-le-mul_left, mul-pos, zero-lt-suc, le_of_mul-le-mul_right}
use native.Mathlib.Omega.{arith}
use mathlib.Core.Bool.{Bool, true, false, not, cond}
use lib.Dec.{T, leb, ltb, lit<, lit≤}
use lib.Pow.{pow_pos, pow_mono, shl_lt}
use lib.Ieee.{Float, binary64, prec, emax, low, size, round, of_int, mul, lt, le, sub, add, neg, sum, span, climb, units, odd}
use lib.Count.{count_trailing_zeros}
use lib.Ieee.Exact.{HasValue, round_exact}
use lib.Ieee.Order.{round_mono}
use lib.Ieee.Scale.{grid}
use lib.Ieee.Back.{round_whole}
use lib.Ieee.Positive.{positive, positive_of_value, mul_at, values_of_le, first_pos}
use Rattle.format.specs.Plan.{as_float, minimum_gain, threshold, meets_gain}
use Rattle.format.proofs.Plan.Rounding.{round-value, grid-near, same_test, lt-of-values}

-- ---- the product n * M / D against m, where M / D is near p / q: by the laws of products, since omega's numbers end at 38 digits

-- if M / D is less than p / q by its part 1 / X at most, and q * m ≤ p * n, then m exceeds the product by its part 1 / X at most
product-near : (p q m n D X M : ℕ) → 0 < q → q * m ≤ p * n → p * (D * X) ≤ q * (M * X + M) → m * D * X ≤ n * M * X + n * M
product-near p q m n D X M Q h near =
    let lengths : q * m * (D * X) ≤ p * n * (D * X) = mul-le-mul_right (D * X) h in
    let shares : p * (D * X) * n ≤ q * (M * X + M) * n = mul-le-mul_right n near in
    let left : m * D * X * q ≡ q * m * (D * X) = simp (mul_assoc, mul_comm, mul_left_comm) in
    let middle : p * n * (D * X) ≡ p * (D * X) * n = simp (mul_assoc, mul_comm, mul_left_comm) in
    let right : q * (M * X + M) * n ≡ (n * M * X + n * M) * q = simp (add-mul, mul-add, mul_assoc, mul_comm, mul_left_comm) in
    le_of_mul-le-mul_right (le_trans (le_of_eq left) (le_trans lengths (le_trans (le_of_eq middle) (le_trans shares (le_of_eq right))))) Q

-- if M / D is more than p / q by 2 / (q * D) at most, and q * m is more than p * n, then the product is at most s / 256, which is m - 1/256
product-below :
    (p q m n s D M : ℕ) → 0 < q → q * M ≤ p * D + 2 → suc s ≡ 256 * m → p * n + 1 ≤ q * m → 512 * n + q * D ≤ 256 * D → n * M * 256 ≤ s * D
product-below p q m n s D M Q near e h enough =
    let shares : q * M * n ≤ p * D * n + 2 * n = rw add-mul at (mul-le-mul_right n near) in
    let lengths : p * n * D + 1 * D ≤ q * m * D = rw add-mul at (mul-le-mul_right D h) in
    let same : p * n * D ≡ p * D * n = mul_right_comm p n D in
    let left : n * M * 256 * q ≡ 256 * (q * M * n) = simp (mul_assoc, mul_comm, mul_left_comm) in
    let right : s * D * q + q * D ≡ 256 * (q * m * D) = less_one in
    le_of_mul-le-mul_right {m = n * M * 256} {n = s * D} (omega arith) Q
  where
    less_one : s * D * q + q * D ≡ 256 * (q * m * D)
    less_one =
        let one : suc s * (D * q) ≡ s * (D * q) + D * q = suc-mul s (D * q) in
        let all : suc s * (D * q) ≡ 256 * m * (D * q) = ap (λ (x : ℕ). x * (D * q)) e in
        let left : s * D * q ≡ s * (D * q) = mul_assoc s D q in
        let swap : D * q ≡ q * D = mul_comm D q in
        let right : 256 * m * (D * q) ≡ 256 * (q * m * D) = simp (mul_assoc, mul_comm, mul_left_comm) in
        omega arith

-- what is at most s / 256, where s is 256 * m - 1, is less than m
part-below : (s m L G : ℕ) → suc s ≡ 256 * m → G * 256 ≤ s * L → 0 < L → G < m * L
part-below s m L G e h l =
    let one : suc s * L ≡ s * L + L = suc-mul s L in
    let all : suc s * L ≡ 256 * m * L = ap (λ (z : ℕ). z * L) e in
    let right : 256 * m * L ≡ 256 * (m * L) = mul_assoc 256 m L in
    omega arith

-- a product above zero has a second factor above zero
second-positive : (q m : ℕ) → 0 < q * m → 0 < m
second-positive q m h = first_pos m q (rw (mul_comm q m) at h)

-- ---- f64 values

-- a multiple of 1/256 below 2 ^ 45 is one
part-value : (s : ℕ) → s < 2 ^ 53 → HasValue (round binary64 false s 256) false s 256
part-value s h =
    round_exact binary64 false s 256 s 1066 (zero-lt-suc 255) h
    (lt_of_lt_of_le (shl_lt 53 1066 h) (pow_mono {i = 53 + 1066} {j = low binary64 + suc (emax binary64)} (lit≤ tt)))
    (sym (mul_assoc s (2 ^ 1066) 256))

-- and so is a length
length-value : (n : ℕ) → n ≤ 134217734 → HasValue (as_float n) false n 1
unfolding of_int
length-value n h = round_whole binary64 false n (omega arith)

-- what plain is multiplied by: 1.0 less a gain of g hundredths
abbrev share : ℕ → Float
share g = sub binary64 (as_float 1) (round binary64 false g 100)

-- That is the f64 M / 2 ^ 53, near to p / q: less at most by its part 1 / 2 ^ 54, which rounding makes up for, and more at most by 2 / (q * 2 ^ 53).
record Share (g M p q : ℕ) : Type 0 where
  value : HasValue (share g) false M (2 ^ 53)
  value-of-zero : HasValue (mul binary64 (as_float 0) (share g)) false 0 1
  positive : 0 < M
  at_most_one : M ≤ 2 ^ 53
  q-positive : 0 < q
  q-most : q ≤ 100
  not-far-below : p * (2 ^ 53 * (2 ^ 53 * 2)) ≤ q * (M * (2 ^ 53 * 2) + M)
  not-far-above : q * M ≤ p * 2 ^ 53 + 2

-- such a share, where what is asked of the numbers is decided by tests
share-of : (g M p q : ℕ) → HasValue (share g) false M (2 ^ 53) → HasValue (mul binary64 (as_float 0) (share g)) false 0 1
    → T (ltb 0 M) → T (leb M (2 ^ 53)) → T (ltb 0 q) → T (leb q 100)
    → T (leb (p * (2 ^ 53 * (2 ^ 53 * 2))) (q * (M * (2 ^ 53 * 2) + M))) → T (leb (q * M) (p * 2 ^ 53 + 2)) → Share g M p q
share-of g M p q v z a b c d e f = record {
  value = v;
  value-of-zero = z;
  positive = lit< a;
  at_most_one = lit≤ b;
  q-positive = lit< c;
  q-most = lit≤ d;
  not-far-below = lit≤ e;
  not-far-above = lit≤ f;
}

-- ---- the test of n and m by a share

module _ {g M p q : ℕ} (S : Share g M p q) (n m : ℕ) (N : n ≤ 134217734) (L : m ≤ 134217734) where
  -- the product is n * M / 2 ^ 53, rounded once,
  product-rounded : 0 < n → mul binary64 (as_float n) (share g) ≡ round binary64 false (n * M) (2 ^ 53)
  product-rounded some =
      mul_at binary64 (as_float n) (share g) n 1 M (2 ^ 53)
      (positive_of_value (as_float n) n 1 (length-value n N) some) (positive_of_value (share g) M (2 ^ 53) S.value S.positive)
      (zero-lt-suc 0) (pow_pos 53) (length-value n N) S.value

  -- below 2 ^ 53,
  product_small : n * M < 2 ^ 53 * 2 ^ prec binary64
  product_small = lt_of_le_of_lt (le_trans (mul-le-mul_right M N) (mul-le-mul_left 134217734 S.at_most_one)) (lit< tt)

  -- and so a finite value: `grid` counts it in units of 2 ^ -low
  product_value : HasValue (round binary64 false (n * M) (2 ^ 53)) false (grid binary64 (n * M) (2 ^ 53)) (2 ^ low binary64)
  product_value = round-value binary64 (n * M) (2 ^ 53) (pow_pos 53) product_small

  -- if q * m ≤ p * n, it is m or above
  not-less : q * m ≤ p * n → m * 2 ^ low binary64 ≤ grid binary64 (n * M) (2 ^ 53)
  not-less h =
      grid-near binary64 (n * M) (2 ^ 53) (pow_pos 53) product_small m
      (product-near p q m n (2 ^ 53) (2 ^ 53 * 2) M S.q-positive h S.not-far-below)

  -- if p * n < q * m, it is below m, as m - 1/256 is a value
  less : p * n < q * m → grid binary64 (n * M) (2 ^ 53) < m * 2 ^ low binary64
  less h =
      let G : ℕ = grid binary64 (n * M) (2 ^ 53) in
      let s : ℕ = 256 * m - 1 in
      let product : Float = round binary64 false (n * M) (2 ^ 53) in
      let part : Float = round binary64 false s 256 in
      let m-positive : 0 < m = second-positive q m (lt_of_le_of_lt zero-le h) in
      let one_less : suc s ≡ 256 * m = omega arith in
      let s-value : HasValue part false s 256 = part-value s (omega arith) in
      let exact : n * M * 256 ≤ s * 2 ^ 53 =
      product-below p q m n s (2 ^ 53) M S.q-positive S.not-far-above one_less (omega arith) (omega (arith, S.q-most)) in
      let rounded : T (le product part) = round_mono binary64 (n * M) (2 ^ 53) s 256 (pow_pos 53) (zero-lt-suc 255) exact in
      elim (eq-zero-or-pos G) [
        | inl zero ↦ subst (λ (x : ℕ). x < m * 2 ^ low binary64) (sym zero) (mul-pos m-positive (pow_pos (low binary64)))
        | inr G-positive ↦
            let product-positive : T (positive product) = positive_of_value product G (2 ^ low binary64) product_value G-positive in
            let part-positive : T (positive part) = positive_of_value part s 256 s-value (omega arith) in
            part-below s m (2 ^ low binary64) G one_less
            (values_of_le product part G (2 ^ low binary64) s 256 product-positive part-positive product_value s-value rounded) (pow_pos (low binary64))
      ]

  -- so the f64 test is that of the fraction: for a plain length that is not 0,
  test-positive : 0 < n → lt (mul binary64 (as_float n) (share g)) (as_float m) ≡ ltb (p * n) (q * m)
  test-positive some =
      let G : ℕ = grid binary64 (n * M) (2 ^ 53) in
      let values : lt (round binary64 false (n * M) (2 ^ 53)) (as_float m) ≡ ltb (G * 1) (m * 2 ^ low binary64) =
      lt-of-values (round binary64 false (n * M) (2 ^ 53)) (as_float m) G (2 ^ low binary64) m 1 (pow_pos (low binary64)) (zero-lt-suc 0)
      product_value (length-value m L) in
      ap (λ (x : Float). lt x (as_float m)) (product-rounded some)
      ∙ values
      ∙ same_test (G * 1) (m * 2 ^ low binary64) (p * n) (q * m) to (λ (h : q * m ≤ p * n). le_trans (not-less h) (le_of_eq (sym (mul-one G))))
    where
      at_least : (x y : ℕ) → (x < y → ⊥) → y ≤ x
      at_least x y h = omega arith

      to : m * 2 ^ low binary64 ≤ grid binary64 (n * M) (2 ^ 53) * 1 → q * m ≤ p * n
      to h =
          let G : ℕ = grid binary64 (n * M) (2 ^ 53) in
          let h' : m * 2 ^ low binary64 ≤ G = le_trans h (le_of_eq (mul-one G)) in
          at_least (p * n) (q * m) (λ (l : p * n < q * m). lt_irrefl G (lt_of_lt_of_le (less l) h'))

  -- for 0, where the product is 0,
  test_zero : n ≡ 0 → lt (mul binary64 (as_float n) (share g)) (as_float m) ≡ ltb (p * n) (q * m)
  test_zero e =
      subst (λ (x : ℕ). lt (mul binary64 (as_float x) (share g)) (as_float m) ≡ ltb (p * x) (q * m)) (sym e)
      (lt-of-values (mul binary64 (as_float 0) (share g)) (as_float m) 0 1 m 1 (zero-lt-suc 0) (zero-lt-suc 0) S.value-of-zero (length-value m L)
      ∙ same_test (0 * 1) (m * 1) (p * 0) (q * m) to from)
    where
      to : m * 1 ≤ 0 * 1 → q * m ≤ p * 0
      to h = let zero : m ≡ 0 = omega arith in subst (λ (x : ℕ). q * x ≤ p * 0) (sym zero) (omega (arith, mul_comm q 0, mul_comm p 0))

      from : q * m ≤ p * 0 → m * 1 ≤ 0 * 1
      from h = elim (eq-zero-or-pos m) [
        | inl zero ↦ omega arith
        | inr positive ↦ absurd (lt_irrefl 0 (lt_of_lt_of_le (mul-pos S.q-positive positive) (omega (arith, mul_comm p 0))))
      ]

  -- and so for any
  share-test : lt (mul binary64 (as_float n) (share g)) (as_float m) ≡ ltb (p * n) (q * m)
  share-test = elim (eq-zero-or-pos n) [ inl none ↦ test_zero none | inr some ↦ test-positive some ]

-- ---- the three shares: all by computing

-- 1.0 - 0.20 for 4/5
share-20 : Share 20 7205759403792794 4 5
unfolding sub add neg sum mul of_int round size span climb units odd count_trailing_zeros
share-20 = share-of 20 7205759403792794 4 5 (refl, refl) (refl, refl) tt tt tt tt tt tt

-- 1.0 - 0.05 for 19/20
share-5 : Share 5 8556839292003942 19 20
unfolding sub add neg sum mul of_int round size span climb units odd count_trailing_zeros
share-5 = share-of 5 8556839292003942 19 20 (refl, refl) (refl, refl) tt tt tt tt tt tt

-- 1.0 - 0.01 for 99/100
share-1 : Share 1 8917127262193582 99 100
unfolding sub add neg sum mul of_int round size span climb units odd count_trailing_zeros
share-1 = share-of 1 8917127262193582 99 100 (refl, refl) (refl, refl) tt tt tt tt tt tt

-- ---- the test of gain

-- the test on whole numbers: does the length exceed 4/5, 19/20 or 99/100 of plain?
abbrev pub exceeds : ℕ → ℕ → ℕ → Bool
exceeds level plain bytes =
    cond (leb level 3) (ltb (4 * plain) (5 * bytes)) (cond (leb level 6) (ltb (19 * plain) (20 * bytes)) (ltb (99 * plain) (100 * bytes)))

-- "the f64 test equals theirs for every plain length up to 134,217,734 and every length up to that"
pub gain-fraction : (level plain bytes : ℕ) → plain ≤ 134217734 → bytes ≤ 134217734 → meets_gain level plain bytes ≡ not (exceeds level plain bytes)
unfolding meets_gain threshold minimum_gain
gain-fraction level plain bytes P B = go (leb level 3) (leb level 6)
  where
    gain : Bool → Bool → Float
    gain c d = cond c (round binary64 false 20 100) (cond d (round binary64 false 5 100) (round binary64 false 1 100))

    go : (c d : Bool)
        → not (lt (mul binary64 (as_float plain) (sub binary64 (as_float 1) (gain c d))) (as_float bytes))
        ≡ not (cond c (ltb (4 * plain) (5 * bytes)) (cond d (ltb (19 * plain) (20 * bytes)) (ltb (99 * plain) (100 * bytes))))
    go true d = ap not (share-test share-20 plain bytes P B)
    go false true = ap not (share-test share-5 plain bytes P B)
    go false false = ap not (share-test share-1 plain bytes P B)
