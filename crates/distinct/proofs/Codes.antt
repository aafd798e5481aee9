-- Where a key stands among rising values. Its code, the number of values less than it, parts them: the values before it are less, and the one at it is not. So to compare
-- the key with one value bounds the code from one side, and a value that is the key has the code for its place.
use mathlib.Core.Path.{◌≡◌, ap}
use mathlib.Core.Bool.{Bool, true, false, cond}
use mathlib.Core.List.{List, [], ◌∷◌}
use Prim.Native.Nat.{ℕ, zero, suc, ◌≤◌, ◌<◌, suc-le-suc, zero-le}
use native.Mathlib.Nat.{le_refl, le_of_suc-le-suc, zero-lt-suc}
use native.Mathlib.Omega.{arith}
use lib.IntN.{ℤ, pos}
use lib.Signed.{lt_z}
use lib.ListN.{length, get_or}
use Rattle.format.specs.Dictionary.{code_of}
use Rattle.format.proofs.Numbers.Order.{lt_z-trans, lt_z-self}
use Rattle.format.specs.Distinct.{Rising}

-- the first value is less than every later one
first-least : (x : ℤ) (xs : List ℤ) (m : ℕ) → Rising (x ∷ xs) → m < length xs → lt_z x (get_or xs m (pos 0)) ≡ true
first-least x [] m r h = absurd (omega arith)
first-least x (y ∷ ys) zero r h = r.0
first-least x (y ∷ ys) (suc m) r h = lt_z-trans x y (get_or ys m (pos 0)) r.0 (first-least y ys m r.1 (le_of_suc-le-suc h))

module _ (key : ℤ) where
  -- a value that is less stands before the code
  pub code-above : (xs : List ℤ) (m : ℕ) → Rising xs → m < length xs → lt_z (get_or xs m (pos 0)) key ≡ true → m < code_of xs key
  unfolding code_of
  code-above [] m r h e = absurd (omega arith)
  code-above (x ∷ xs) zero r h e = rw e (zero-lt-suc (code_of xs key))
  code-above (x ∷ xs) (suc m) r h e =
      let k : m < length xs = le_of_suc-le-suc h in
      rw (lt_z-trans x (get_or xs m (pos 0)) key (first-least x xs m r k) e) (suc-le-suc (code-above xs m r.1 k e))

  -- one that is not less does not
  pub code_below : (xs : List ℤ) (m : ℕ) → m < length xs → lt_z (get_or xs m (pos 0)) key ≡ false → code_of xs key ≤ m
  unfolding code_of
  code_below [] m h e = zero-le
  code_below (x ∷ xs) zero h e = rw e (le_refl 0)
  code_below (x ∷ xs) (suc m) h e = go (lt_z x key) (code_below xs m (le_of_suc-le-suc h) e)
    where
      go : (t : Bool) → code_of xs key ≤ m → cond t (suc (code_of xs key)) 0 ≤ suc m
      go true i = suc-le-suc i
      go false i = zero-le

  -- a code is at most the number of values
  pub code-le : (xs : List ℤ) → code_of xs key ≤ length xs
  unfolding code_of
  code-le [] = zero-le
  code-le (x ∷ xs) = go (lt_z x key) (code-le xs)
    where
      go : (t : Bool) → code_of xs key ≤ length xs → cond t (suc (code_of xs key)) 0 ≤ suc (length xs)
      go true i = suc-le-suc i
      go false i = zero-le

-- a value that is the key stands at its code
pub code-of-value : (xs : List ℤ) (m : ℕ) → Rising xs → m < length xs → code_of xs (get_or xs m (pos 0)) ≡ m
unfolding code_of
code-of-value [] m r h = absurd (omega arith)
code-of-value (x ∷ xs) zero r h = rw (lt_z-self x)
code-of-value (x ∷ xs) (suc m) r h =
    let k : m < length xs = le_of_suc-le-suc h in
    rw (first-least x xs m r k) (ap suc (code-of-value xs m r.1 k))
