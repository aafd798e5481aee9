-- The test of gain over all lengths. It is monotone: what exceeds the product still does so when it grows, since rounding a greater whole number gives no
-- lesser f64. So a length of plain's or more never meets it, and the test is the fraction's (CR 13, Fraction) for every length, however great.
use mathlib.Core.Path.{◌≡◌, refl, sym, ap, ◌∙◌, subst}
use mathlib.Core.Logic.{inl, inr, ◌↔◌}
use borrow.Author.Tests.{ltb-true, lt-ltb, le-leb, lt-leb, not-false}
use Prim.Native.Nat.{ℕ, zero, suc, ◌+◌, ◌*◌, ◌^◌, ◌≤◌, ◌<◌}
use native.Mathlib.Nat.{zero-mul, mul_right_comm, mul-pos, mul-le-mul_right, mul-le-mul_left, mul-lt-mul_of_pos_right, lt_of_mul-lt-mul_right, lt_of_lt_of_le, le_refl, le_of_lt, le_of_eq, eq-zero-or-pos}
use native.Mathlib.Decide.{dec_le}
use native.Mathlib.Omega.{arith}
use mathlib.Core.Bool.{Bool, true, false, not, cond, ◌&&◌, ◌||◌}
use lib.Dec.{T, leb, ltb, eqb, ltb→lt, lt→ltb, eqb→eq, lit<}
use lib.IntN.{ℤ}
use lib.Ieee.{Float, nan, inf, fin, Format, binary64, prec, emax, low, up, down, units, odd, of_int, lt, le, eq}
use lib.Ieee.Fits.{round_is, down_pos}
use lib.Ieee.Order.{drop, kept, round_mono}
use lib.Ieee.Positive.{first_pos}
use Rattle.format.specs.Plan.{as_float, threshold, meets_gain}
use Rattle.format.proofs.Plan.Fraction.{exceeds, gain-fraction}

-- ---- whole numbers as f64

-- a value with no sign: finite, or the infinity that a greater number is rounded to
data NotNegative : Float → Type 0 where
  infinite : NotNegative (inf false)
  finite : {m : ℕ} {e : ℤ} → NotNegative (fin false m e)

-- rounding without a sign gives such a value: the digits that it keeps,
odd-not-negative : (d q k l : ℕ) → NotNegative (odd d false q k l)
unfolding odd
odd-not-negative d zero k l = finite
odd-not-negative d (suc q) k l = finite

-- so many units as a value, or the infinity where they are too many
units-not-negative : (f : Format) (q k : ℕ) → NotNegative (units f false q k)
unfolding units
units-not-negative f q k = go (ltb (q * 2 ^ k) (2 ^ (low f + suc (emax f))))
  where
    go : (t : Bool) → NotNegative (cond t (odd (suc (prec f)) false q k (low f)) (inf false))
    go true = odd-not-negative (suc (prec f)) q k (low f)
    go false = infinite

-- so a whole number is one,
as_float-not-negative : (n : ℕ) → NotNegative (as_float n)
unfolding of_int
as_float-not-negative n = rw round_is (units-not-negative binary64 (kept 53 (n * 2 ^ low binary64) 1) (drop 53 (n * 2 ^ low binary64) 1))

-- and a greater whole number is no less
as_float-mono : (m n : ℕ) → m ≤ n → T (le (as_float m) (as_float n))
unfolding of_int
as_float-mono m n h = round_mono binary64 m 1 n 1 (lit< tt) (lit< tt) (omega arith)

-- ---- x < y ≤ z

-- x / p < y / q ≤ z / r, of fractions
lt-le-fractions : (x y z p q r : ℕ) → 0 < q → 0 < r → x * q < y * p → y * r ≤ z * q → x * r < z * p
lt-le-fractions x y z p q r Q R h k =
    let less : x * q * r < y * p * r = mul-lt-mul_of_pos_right h R in
    let most : y * r * p ≤ z * q * p = mul-le-mul_right p k in
    lt_of_mul-lt-mul_right q (omega (arith, mul_right_comm x r q, mul_right_comm y p r, mul_right_comm z q p))

-- -x / p < y / q ≤ z / r, where the first is negative or zero
lt-le-negative : (x y z p q r : ℕ) → 0 < q → 0 < r → 0 < p → 0 < x * q + y * p → y * r ≤ z * q → 0 < x * r + z * p
lt-le-negative x y z p q r Q R P h k = elim (eq-zero-or-pos x) [ inl none ↦ at_zero none | inr positive ↦ omega (arith, mul-pos positive R) ]
  where
    at_zero : x ≡ 0 → 0 < x * r + z * p
    at_zero e =
        let none : x * q ≡ 0 = ap (λ (n : ℕ). n * q) e ∙ zero-mul q in
        let y-positive : 0 < y = first_pos y p (omega arith) in
        let z-positive : 0 < z = first_pos z q (lt_of_lt_of_le (mul-pos y-positive R) k) in
        omega (arith, mul-pos z-positive P)

-- `le` of two finite values with no sign is that of the fractions
le-fractions : (a b : ℕ) → T (ltb a b || (eqb a b && true)) → a ≤ b
le-fractions a b = go (ltb a b) (eqb a b) (ltb→lt a b) (eqb→eq a b)
  where
    go : (t u : Bool) → (T t → a < b) → (T u → a ≡ b) → T (t || (u && true)) → a ≤ b
    go true u h k e = le_of_lt (h tt)
    go false true h k e = le_of_eq (k tt)
    go false false h k e = absurd e

-- x < y and y ≤ z give x < z, for any x and for y and z with no sign, infinities included
lt-le : (x : Float) {y z : Float} → NotNegative y → NotNegative z → T (lt x y) → T (le y z) → T (lt x z)
unfolding lt le eq
lt-le nan Y Z h k = absurd h
lt-le (inf s) infinite infinite h k = h
lt-le (inf s) infinite finite h k = absurd k
lt-le (inf true) finite infinite h k = tt
lt-le (inf false) finite infinite h k = absurd h
lt-le (inf s) finite finite h k = h
lt-le (fin s a e) infinite infinite h k = tt
lt-le (fin s a e) infinite finite h k = absurd k
lt-le (fin s a e) finite infinite h k = tt
lt-le (fin false a e) (finite {m = b} {e = d}) (finite {m = c} {e = g}) h k =
    lt→ltb (a * up e * down g) (c * up g * down e)
    (lt-le-fractions (a * up e) (b * up d) (c * up g) (down e) (down d) (down g) (down_pos d) (down_pos g)
    (ltb→lt (a * up e * down d) (b * up d * down e) h) (le-fractions (b * up d * down g) (c * up g * down d) k))
lt-le (fin true a e) (finite {m = b} {e = d}) (finite {m = c} {e = g}) h k =
    lt→ltb 0 (a * up e * down g + c * up g * down e)
    (lt-le-negative (a * up e) (b * up d) (c * up g) (down e) (down d) (down g) (down_pos d) (down_pos g) (down_pos e)
    (ltb→lt 0 (a * up e * down d + b * up d * down e) h) (le-fractions (b * up d * down g) (c * up g * down d) k))

-- ---- the test

-- a test that is passed, as an equation
test-true : (t : Bool) → T t → t ≡ true
test-true true h = refl
test-true false h = absurd h

-- a length that exceeds the product still does so when it grows, whatever the level, plain and the lengths are
pub gain-mono : (level plain m n : ℕ) → m ≤ n → meets_gain level plain m ≡ false → meets_gain level plain n ≡ false
unfolding meets_gain
gain-mono level plain m n h not-met =
    let product : Float = threshold level plain in
    let exceeded : lt product (as_float m) ≡ true = not-false (lt product (as_float m)) not-met in
    ap not
    (test-true (lt product (as_float n))
    (lt-le product (as_float-not-negative m) (as_float-not-negative n) (subst T (sym exceeded) tt) (as_float-mono m n h)))

-- what is no shorter than plain exceeds any share p / q of it that is below 1,
exceeds-share : (p q plain bytes : ℕ) → p < q → plain ≤ bytes → 0 < plain → ltb (p * plain) (q * bytes) ≡ true
exceeds-share p q plain bytes below h positive =
    lt-ltb (p * plain) (q * bytes) (lt_of_lt_of_le (mul-lt-mul_of_pos_right below positive) (mul-le-mul_left q h))

-- whichever of the three the level has
exceeds-above : (level plain bytes : ℕ) → plain ≤ bytes → 0 < plain → exceeds level plain bytes ≡ true
exceeds-above level plain bytes h positive = go (leb level 3) (leb level 6)
  where
    go : (c d : Bool) → cond c (ltb (4 * plain) (5 * bytes)) (cond d (ltb (19 * plain) (20 * bytes)) (ltb (99 * plain) (100 * bytes))) ≡ true
    go true d = exceeds-share 4 5 plain bytes (lit< tt) h positive
    go false true = exceeds-share 19 20 plain bytes (lit< tt) h positive
    go false false = exceeds-share 99 100 plain bytes (lit< tt) h positive

-- so it never meets the test, for a plain of 1 to 134,217,734; plain itself among it
pub plain-no-gain : (level plain bytes : ℕ) → 0 < plain → plain ≤ 134217734 → plain ≤ bytes → meets_gain level plain bytes ≡ false
plain-no-gain level plain bytes positive P h =
    gain-mono level plain plain bytes h (gain-fraction level plain plain P P ∙ ap not (exceeds-above level plain plain (le_refl plain) positive))

-- the f64 test is the fraction's for every length, however great, and every plain of 1 to 134,217,734
pub gain-fraction-all : (level plain bytes : ℕ) → 0 < plain → plain ≤ 134217734 → meets_gain level plain bytes ≡ not (exceeds level plain bytes)
gain-fraction-all level plain bytes positive P = go (dec_le bytes 134217734)
  where
    go : Dec (bytes ≤ 134217734) → meets_gain level plain bytes ≡ not (exceeds level plain bytes)
    go (yes B) = gain-fraction level plain bytes P B
    go (no long) =
        let h : plain ≤ bytes = omega arith in
        plain-no-gain level plain bytes positive P h ∙ sym (ap not (exceeds-above level plain bytes h positive))

-- ---- CR 13, by levels

-- p / q is the fraction of plain that a length may have at a level (no plan is made above level 9)
pub data LevelFraction (level : ℕ) : ℕ → ℕ → Type 0 where
  -- "5 times the length exceeds 4 times plain at levels 1 to 3,
  levels-1-3 : 1 ≤ level → level ≤ 3 → LevelFraction level 4 5
  -- 20 times exceeds 19 times at 4 to 6,
  levels-4-6 : 4 ≤ level → level ≤ 6 → LevelFraction level 19 20
  -- and 100 times exceeds 99 times at 7 to 9"
  levels-7-9 : 7 ≤ level → LevelFraction level 99 100

-- level 0 has none
pub level-positive : {level p q : ℕ} → LevelFraction level p q → 1 ≤ level
level-positive (levels-1-3 from to) = from
level-positive (levels-4-6 from to) = omega arith
level-positive (levels-7-9 from) = omega arith

-- the test on whole numbers, at a level whose fraction is known
exceeds-at-level : {level p q : ℕ} → LevelFraction level p q → (plain bytes : ℕ) → exceeds level plain bytes ≡ ltb (p * plain) (q * bytes)
exceeds-at-level {level} (levels-1-3 from to) plain bytes = simp (le-leb level 3 to)
exceeds-at-level {level} (levels-4-6 from to) plain bytes = simp (lt-leb level 3 from, le-leb level 6 to)
exceeds-at-level {level} (levels-7-9 from) plain bytes = simp (lt-leb level 3 (omega arith), lt-leb level 6 from)

-- a length does not meet the f64 test exactly if q times it exceeds p times plain
pub gain-at-level :
    {level p q : ℕ} → LevelFraction level p q → (plain bytes : ℕ) → plain ≤ 134217734 → bytes ≤ 134217734
    → (meets_gain level plain bytes ≡ false) ↔ (p * plain < q * bytes)
gain-at-level {level} {p} {q} fraction plain bytes P B =
    let same : meets_gain level plain bytes ≡ not (ltb (p * plain) (q * bytes)) =
    gain-fraction level plain bytes P B ∙ ap not (exceeds-at-level fraction plain bytes) in (
      λ (h : meets_gain level plain bytes ≡ false). ltb-true (p * plain) (q * bytes) (not-false (ltb (p * plain) (q * bytes)) (sym same ∙ h)),
      λ (h : p * plain < q * bytes). same ∙ ap not (lt-ltb (p * plain) (q * bytes) h),
    )
