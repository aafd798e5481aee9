-- A search by quarters. What is left to be searched finds what the whole search finds (`Narrowing`, the loop's invariant), in any list. If the values rise, then the key's code lies
-- from `low` to 2^left places on, and to compare the key with the three values between the quarters leaves one of them: so what is found is the code.
use mathlib.Core.Path.{◌≡◌, refl, sym, ap, ◌∙◌}
use mathlib.Core.Bool.{Bool, true, false, cond}
use mathlib.Core.List.{List}
use Prim.Native.Nat.{ℕ, zero, suc, ◌+◌, ◌-◌, ◌*◌, ◌^◌, ◌≤◌, ◌<◌}
use native.Mathlib.Nat.{pow-suc}
use native.Mathlib.Decide.{dec_lt}
use native.Mathlib.Omega.{arith}
use lib.Pow.{pow_pos}
use lib.IntN.{ℤ, pos}
use lib.Signed.{lt_z}
use lib.ListN.{length, get_or}
use lib.Dec.{eqb}
use borrow.Author.Tests.{eq-eqb, ne_eqb}
use Rattle.format.specs.Dictionary.{code_of}
use Rattle.format.specs.Distinct.{Rising}
use Rattle.format.specs.Width.{width}
use Rattle.format.proofs.Numbers.Widths.{width-lt, width-tight}
use Rattle.distinct.specs.Search.{up_over, quartered, narrowed, power_in, searched}
use Rattle.distinct.proofs.Codes.{code-above, code_below, code-le}

-- 2^k values, doubled
pow-half : (k : ℕ) → 0 < k → 2 ^ k ≡ 2 * 2 ^ (k - 1)
pow-half zero h = absurd (omega arith)
pow-half (suc k) h = let e : suc k - 1 ≡ k = omega arith in rw (e, pow-suc 2 k) (omega arith)

-- some values: their number has a width, and the power below it is at most the number, and more than half of it
module _ (count : ℕ) (some : 0 < count) (fits : count < 2 ^ 64) where
  pub width_some : 1 ≤ width count
  width_some = go (width count) refl
    where
      go : (w : ℕ) → width count ≡ w → 1 ≤ w
      go zero e = absurd (omega (arith, rw e at (width-lt count fits)))
      go (suc w) e = omega arith

  pub width_power : (2 ^ power_in count ≤ count) × (count < 2 * 2 ^ power_in count)
  width_power =
      let e = pow-half (width count) width_some in
      (omega (arith, width-tight count fits), omega (arith, width-lt count fits))

-- no further up than there is
pub up-most : (value key : ℤ) (far : ℕ) → up_over value key far ≤ far
up-most value key far = go (lt_z value key)
  where
    go : (t : Bool) → cond t far 0 ≤ far
    go true = omega arith
    go false = omega arith

module _ (values : List ℤ) (key : ℤ) where
  -- ---- a turn

  -- the three values that are asked, and the steps that they make
  pub quartered-made : (low : ℕ) {far p a b c : ℕ} {lower middle upper other : ℤ} → other ≡ key → far ≡ p
      → lower ≡ get_or values (low + far) (pos 0) → middle ≡ get_or values (low + 2 * far) (pos 0) → upper ≡ get_or values (low + 3 * far) (pos 0)
      → a ≡ up_over lower other p → b ≡ up_over middle other p → c ≡ up_over upper other p → low + a + (b + c) ≡ quartered values key low p
  unfolding quartered
  quartered-made low k f l m u ea eb ec = rw (ea, eb, ec, k, l, m, u, f) (omega arith)

  -- ---- the loop

  -- no values
  pub searched-none : length values ≡ 0 → 0 ≡ searched values key
  unfolding searched
  searched-none e = rw (eq-eqb (length values) 0 e)

  -- some
  searched-some : 0 < length values
      → narrowed values key (up_over (get_or values (length values - 2 ^ power_in (length values)) (pos 0)) key (length values - 2 ^ power_in (length values))) (power_in (length values))
      ≡ searched values key
  unfolding searched
  searched-some h = rw (ne_eqb (length values) 0 (λ (e : length values ≡ 0). omega arith))

  pub record Narrowing (low left : ℕ) : Type 0 where
    pub room : low + 2 ^ left ≤ length values
    pub finds : narrowed values key low left ≡ searched values key

  -- the first values or the last ones
  pub narrowing-first : 0 < length values → 2 ^ power_in (length values) ≤ length values → {left power low : ℕ} {value : ℤ} → left ≡ power_in (length values) → power ≡ 2 ^ left
      → value ≡ get_or values (length values - power) (pos 0) → low ≡ up_over value key (length values - power) → Narrowing low left
  narrowing-first some most {left} {power} {low} {value} w p v l =
      let far : power ≡ 2 ^ power_in (length values) = p ∙ ap (λ (n : ℕ). 2 ^ n) w in
      let is : low ≡ up_over (get_or values (length values - 2 ^ power_in (length values)) (pos 0)) key (length values - 2 ^ power_in (length values)) =
      l ∙ ap (λ (x : ℤ). up_over x key (length values - power)) v ∙ ap (λ (n : ℕ). up_over (get_or values (length values - n) (pos 0)) key (length values - n)) far in
      record {
        room = omega (arith, up-most value key (length values - power));
        finds = ap (narrowed values key low) w ∙ ap (λ (n : ℕ). narrowed values key n (power_in (length values))) is ∙ searched-some some;
      }

  -- no further than to the last quarter
  quartered-most : (low far : ℕ) → quartered values key low far ≤ low + 3 * far
  unfolding quartered
  quartered-most low far =
      omega (
        arith,
        up-most (get_or values (low + far) (pos 0)) key far,
        up-most (get_or values (low + 2 * far) (pos 0)) key far,
        up-most (get_or values (low + 3 * far) (pos 0)) key far,
      )

  module _ {low left : ℕ} (s : Narrowing low left) where
    -- the quarters are there
    pub narrowing-quarters : 1 < left → low + 4 * 2 ^ (left - 2) ≤ length values
    narrowing-quarters two = go left refl two s
      where
        go : (n : ℕ) → left ≡ n → 1 < n → Narrowing low n → low + 4 * 2 ^ (left - 2) ≤ length values
        go zero e h g = absurd (omega arith)
        go (suc zero) e h g = absurd (omega arith)
        go (suc (suc k)) e h g =
            let less : left - 2 ≡ k = omega arith in
            rw less (omega (arith, g.room, pow-suc 2 k, pow-suc 2 (suc k)))

    -- one of them
    pub narrowing-quarter : 1 < left → {found : ℕ} → found ≡ quartered values key low (2 ^ (left - 2)) → Narrowing found (left - 2)
    unfolding narrowed
    narrowing-quarter two {found} q = go left refl two s
      where
        go : (n : ℕ) → left ≡ n → 1 < n → Narrowing low n → Narrowing found (left - 2)
        go zero e h g = absurd (omega arith)
        go (suc zero) e h g = absurd (omega arith)
        go (suc (suc k)) e h g =
            let less : left - 2 ≡ k = omega arith in
            let is : found ≡ quartered values key low (2 ^ k) = q ∙ ap (λ (n : ℕ). quartered values key low (2 ^ n)) less in
            record {
              room = rw less (omega (arith, g.room, pow-suc 2 k, pow-suc 2 (suc k), is, quartered-most low (2 ^ k)));
              finds = ap (narrowed values key found) less ∙ ap (λ (n : ℕ). narrowed values key n k) is ∙ g.finds;
            }

    -- one of the last two values, where there are two
    pub narrowing-half : left < 2 → {found : ℕ} → found ≡ cond (eqb left 0) low (low + up_over (get_or values (low + 1) (pos 0)) key 1) → Narrowing found 0
    unfolding narrowed
    narrowing-half few {found} q = go left refl few s
      where
        go : (n : ℕ) → left ≡ n → n < 2 → Narrowing low n → Narrowing found 0
        go zero e h g =
            let is : found ≡ low = q ∙ ap (λ (n : ℕ). cond (eqb n 0) low (low + up_over (get_or values (low + 1) (pos 0)) key 1)) e in
            rw is g
        go (suc zero) e h g =
            let is : found ≡ low + up_over (get_or values (low + 1) (pos 0)) key 1 = q ∙ ap (λ (n : ℕ). cond (eqb n 0) low (low + up_over (get_or values (low + 1) (pos 0)) key 1)) e in
            record {
              room = omega (arith, g.room, is, up-most (get_or values (low + 1) (pos 0)) key 1);
              finds = ap (λ (n : ℕ). narrowed values key n 0) is ∙ g.finds;
            }
        go (suc (suc k)) e h g = absurd (omega arith)

  -- one value
  module _ {low : ℕ} (s : Narrowing low 0) {step : ℕ} {value : ℤ} (v : value ≡ get_or values low (pos 0)) (t : step ≡ up_over value key 1) where
    pub narrowing-done : low + step ≡ searched values key
    unfolding narrowed
    narrowing-done = ap (λ (n : ℕ). low + n) (t ∙ ap (λ (x : ℤ). up_over x key 1) v) ∙ s.finds

  -- ---- among rising values

  module _ (rising : Rising values) where
    -- the code lies in a list from `low` to `far` places on
    abbrev Within : ℕ → ℕ → Type 0
    Within low far = (low ≤ code_of values key) × (code_of values key ≤ low + far)

    -- it lies in the quarter that is left: of the three values those below it are less than the key, and no other
    quartered-code : (low far : ℕ) → low + 4 * far ≤ length values → 0 < far → Within low (4 * far) → Within (quartered values key low far) far
    unfolding quartered
    quartered-code low far room some w = go (lt_z lower key) refl (lt_z middle key) refl (lt_z upper key) refl
      where
        lower : ℤ
        lower = get_or values (low + far) (pos 0)

        middle : ℤ
        middle = get_or values (low + 2 * far) (pos 0)

        upper : ℤ
        upper = get_or values (low + 3 * far) (pos 0)

        above : (at : ℕ) → at < length values → lt_z (get_or values at (pos 0)) key ≡ true → at < code_of values key
        above at h e = code-above key values at rising h e

        below : (at : ℕ) → at < length values → lt_z (get_or values at (pos 0)) key ≡ false → code_of values key ≤ at
        below at h e = code_below key values at h e

        go : (a : Bool) → lt_z lower key ≡ a → (b : Bool) → lt_z middle key ≡ b → (c : Bool) → lt_z upper key ≡ c
            → Within (low + cond a far 0 + cond b far 0 + cond c far 0) far
        go true ea true eb true ec = let u = above (low + 3 * far) (omega arith) ec in (omega arith, omega (arith, w.1))
        go true ea true eb false ec =
            let m = above (low + 2 * far) (omega arith) eb in
            let u = below (low + 3 * far) (omega arith) ec in
            (omega arith, omega arith)
        go true ea false eb true ec =
            let m = below (low + 2 * far) (omega arith) eb in
            let u = above (low + 3 * far) (omega arith) ec in
            absurd (omega arith)
        go true ea false eb false ec =
            let l = above (low + far) (omega arith) ea in
            let m = below (low + 2 * far) (omega arith) eb in
            (omega arith, omega arith)
        go false ea true eb c ec =
            let l = below (low + far) (omega arith) ea in
            let m = above (low + 2 * far) (omega arith) eb in
            absurd (omega arith)
        go false ea false eb true ec =
            let l = below (low + far) (omega arith) ea in
            let u = above (low + 3 * far) (omega arith) ec in
            absurd (omega arith)
        go false ea false eb false ec = let l = below (low + far) (omega arith) ea in (omega (arith, w.0), omega arith)

    -- or it is the last value's place, or the one after it
    last_code : (low : ℕ) → low + 1 ≤ length values → Within low 1 → narrowed values key low zero ≡ code_of values key
    unfolding narrowed
    last_code low room w = go (lt_z (get_or values low (pos 0)) key) refl
      where
        go : (t : Bool) → lt_z (get_or values low (pos 0)) key ≡ t → low + cond t 1 0 ≡ code_of values key
        go true e = omega (arith, w.1, code-above key values low rising (omega arith) e)
        go false e = omega (arith, w.0, code_below key values low (omega arith) e)

    narrowed-code : (left low : ℕ) → low + 2 ^ left ≤ length values → Within low (2 ^ left) → narrowed values key low left ≡ code_of values key
    unfolding narrowed
    narrowed-code zero low room w = last_code low room w
    narrowed-code (suc zero) low room w = go (lt_z (get_or values (low + 1) (pos 0)) key) refl
      where
        go : (t : Bool) → lt_z (get_or values (low + 1) (pos 0)) key ≡ t → narrowed values key (low + cond t 1 0) zero ≡ code_of values key
        go true e =
            last_code (low + 1) (omega arith) (omega (arith, code-above key values (low + 1) rising (omega arith) e), omega (arith, w.1))
        go false e =
            last_code (low + 0) (omega arith) (omega (arith, w.0), omega (arith, code_below key values (low + 1) (omega arith) e))
    narrowed-code (suc (suc k)) low room w =
        let four : 2 ^ suc (suc k) ≡ 4 * 2 ^ k = omega (arith, pow-suc 2 k, pow-suc 2 (suc k)) in
        narrowed-code k (quartered values key low (2 ^ k)) (omega (arith, four, quartered-most low (2 ^ k)))
        (quartered-code low (2 ^ k) (omega (arith, four)) (pow_pos k) (w.0, omega (arith, four, w.1)))

    -- a search finds the key's code
    pub searched_code : length values < 2 ^ 64 → searched values key ≡ code_of values key
    searched_code fits = go (dec_lt 0 (length values))
      where
        n : ℕ
        n = length values

        last : ℕ
        last = n - 2 ^ power_in n

        some : 0 < n → searched values key ≡ code_of values key
        some h =
            let w = width_power n h fits in
            sym (searched-some h) ∙ first w (lt_z (get_or values last (pos 0)) key) refl
          where
            first : (2 ^ power_in n ≤ n) × (n < 2 * 2 ^ power_in n) → (t : Bool) → lt_z (get_or values last (pos 0)) key ≡ t → narrowed values key (cond t last 0) (power_in n) ≡ code_of values key
            first w true e =
                narrowed-code (power_in n) last (omega arith) (omega (arith, code-above key values last rising (omega (arith, pow_pos (power_in n))) e), omega (arith, code-le key values))
            first w false e =
                narrowed-code (power_in n) 0 (omega arith) (omega arith, omega (arith, code_below key values last (omega (arith, pow_pos (power_in n))) e))

        go : Dec (0 < n) → searched values key ≡ code_of values key
        go (yes h) = some h
        go (no h) = let e : n ≡ 0 = omega arith in sym (searched-none e) ∙ omega (arith, code-le key values)
