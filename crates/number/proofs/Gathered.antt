-- The width of the largest of some numbers is that of all their bits together: each is below a power of 2 exactly where all numbers are. A loop that gathers the
-- bits keeps this: what is gathered and what is still to come are below a power of 2 exactly where the whole is (`Gathered`).
use mathlib.Core.Path.{◌≡◌}
use mathlib.Core.List.{List, [], ◌∷◌, map}
use Prim.Native.Nat.{ℕ, ◌+◌, ◌^◌, ◌≤◌, ◌<◌}
use native.Mathlib.Nat.{le_antisymm, le_trans}
use native.Mathlib.Numerals.{add-one}
use native.Mathlib.Omega.{arith}
use borrow.Author.Count.{below_more}
use lib.Bits.{bit_or, or_lt, or_add_and, and_le_l, and_le_r}
use lib.IntN.{ℤ, pos}
use lib.ListN.{length, get_or, drop, drop_of_length-le}
use lib.Pow.{pow_pos}
use lib.Seq.{drop-cons}
use Rattle.format.specs.Folds.{largest}
use Rattle.format.specs.Keys.{zigzag}
use Rattle.format.specs.Width.{width}
use Rattle.format.proofs.Numbers.All.{Below, all_none, all_more}
use Rattle.format.proofs.Numbers.Extremes.{largest-lt, below-widest}
use Rattle.format.proofs.Numbers.Widths.{width-lt, width-least}

-- `bits` are gathered of `whole`, and `rest` is still to come
pub record Gathered (whole : List ℕ) (bits : ℕ) (rest : List ℕ) : Type 0 where
  pub fits : bits < 2 ^ 64
  pub enough : (k : ℕ) → bits < 2 ^ k → Below (2 ^ k) rest → Below (2 ^ k) whole
  pub needed : (k : ℕ) → Below (2 ^ k) whole → (bits < 2 ^ k) × Below (2 ^ k) rest

or-left : (a b : ℕ) → a ≤ bit_or a b
or-left a b = omega (arith, or_add_and a b, and_le_r a b)

or-right : (a b : ℕ) → b ≤ bit_or a b
or-right a b = omega (arith, or_add_and a b, and_le_l a b)

module _ {whole : List ℕ} where
  gathered-none : Gathered whole 0 whole
  gathered-none = record { fits = pow_pos 64; enough = λ k _ r. r; needed = λ k r. (pow_pos k, r) }

  gathered-more : {bits n : ℕ} {rest : List ℕ} → n < 2 ^ 64 → Gathered whole bits (n ∷ rest) → Gathered whole (bit_or bits n) rest
  gathered-more {bits} {n} {rest} f g = record { fits = or_lt 64 bits n g.fits f; enough = enough; needed = needed }
    where
      enough : (k : ℕ) → bit_or bits n < 2 ^ k → Below (2 ^ k) rest → Below (2 ^ k) whole
      enough k h r = g.enough k (omega (arith, or-left bits n)) (all_more (omega (arith, or-right bits n)) r)

      needed : (k : ℕ) → Below (2 ^ k) whole → (bit_or bits n < 2 ^ k) × Below (2 ^ k) rest
      needed k r = go k (g.needed k r)
        where
          go : (k : ℕ) → (bits < 2 ^ k) × Below (2 ^ k) (n ∷ rest) → (bit_or bits n < 2 ^ k) × Below (2 ^ k) rest
          go k (h, all_more l r) = (or_lt k bits n h l, r)

  gathered-all : {bits : ℕ} → Gathered whole bits [] → width bits ≡ width (largest whole)
  gathered-all {bits} g =
      let below : Below (2 ^ 64) whole = g.enough 64 g.fits all_none in
      let upper : width bits ≤ width (largest whole) = width-least bits (width (largest whole)) (g.needed _ (below-widest below)).0 in
      let lower : width (largest whole) ≤ width bits =
      width-least (largest whole) (width bits) (largest-lt (2 ^ width bits) (pow_pos (width bits)) (g.enough (width bits) (width-lt bits g.fits) all_none)) in
      le_antisymm upper lower

-- i values of a column are passed: `bits` are gathered of their ZigZags, none of which is above them
pub record Passed (column : List ℤ) (bits i : ℕ) : Type 0 where
  pub gathered : Gathered (map zigzag column) bits (map zigzag (drop i column))
  pub within : (k : ℕ) → k < i → zigzag (get_or column k (pos 0)) ≤ bits

module _ {column : List ℤ} where
  module _ {bits i : ℕ} where
    pub passed_more : {n : ℕ} → i < length column → n < 2 ^ 64 → n ≡ zigzag (get_or column i (pos 0)) → Passed column bits i → Passed column (bit_or bits n) (i + 1)
    passed_more {n} h f e p =
        record {
          gathered = gathered-more f (rw add-one (rw (drop-cons column i (pos 0) h, ← e) at p.gathered));
          within = below_more _ i (λ k l. le_trans (p.within k l) (or-left bits n)) (rw (← e) (or-right bits n));
        }

    pub passed_all : length column ≤ i → Passed column bits i → width bits ≡ width (largest (map zigzag column))
    passed_all h p = gathered-all (rw (drop_of_length-le column h) at p.gathered)
