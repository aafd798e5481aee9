-- Codes: asked one after the other whether they are below the number of entries, and looked up in a table.
use mathlib.Core.Path.{◌≡◌, refl, sym, ap, ap₂, ◌∙◌}
use mathlib.Core.Bool.{Bool, true, false, ◌&&◌}
use mathlib.Core.List.{List, [], ◌∷◌, ◌++◌, map}
use Prim.Native.Nat.{ℕ, zero, suc, ◌+◌, ◌-◌, ◌<◌, ◌≤◌, min, zero-le}
use native.Mathlib.Decide.{dec_lt}
use native.Mathlib.Nat.{sub-zero}
use native.Mathlib.Omega.{arith}
use lib.IntN.{ℤ, pos}
use lib.Dec.{ltb}
use lib.ListN.{length, get_or, take, length-append, get_or-append}
use borrow.Author.Tests.{lt-ltb, le-ltb, ltb-true}
use Rattle.std.specs.List.{list_all}
use Rattle.format.specs.Dictionary.{all_below}
use Rattle.format.proofs.Numbers.All.{Below, all_none, all_more}
use Rattle.dictionary.specs.Reading.{picked, picked_all}

-- ---- all below

pub below_all : (entries : ℕ) (codes : List ℕ) → list_all (λ c. ltb c entries) codes ≡ all_below entries codes
unfolding all_below
below_all entries [] = refl
below_all entries (c ∷ cs) = ap (λ (b : Bool). ltb c entries && b) (below_all entries cs)

both_true : (a b : Bool) → (a && b) ≡ true → (a ≡ true) × (b ≡ true)
both_true true b e = (refl, e)
both_true false b e = (e, cc)

get_or-second : (xs ys : List ℤ) (k : ℕ) → length xs ≤ k → get_or (xs ++ ys) k (pos 0) ≡ get_or ys (k - length xs) (pos 0)
get_or-second [] ys k h = ap (λ (i : ℕ). get_or ys i (pos 0)) (sym (sub-zero k))
get_or-second (x ∷ xs) ys zero h = absurd (omega arith)
get_or-second (x ∷ xs) ys (suc k) h = get_or-second xs ys k (omega arith) ∙ ap (λ (i : ℕ). get_or ys i (pos 0)) (omega arith)

-- of two parts, both
pub below-append : (entries : ℕ) (xs ys : List ℕ) → all_below entries (xs ++ ys) ≡ (all_below entries xs && all_below entries ys)
unfolding all_below
below-append entries [] ys = refl
below-append entries (x ∷ xs) ys = rw (below-append entries xs ys) (and_assoc (ltb x entries) (all_below entries xs) (all_below entries ys))
  where
    and_assoc : (a b c : Bool) → (a && (b && c)) ≡ ((a && b) && c)
    and_assoc true b c = refl
    and_assoc false b c = refl

-- of two bounds, the lesser
pub below-min : (entries bound : ℕ) {codes : List ℕ} → all_below entries codes ≡ true → Below bound codes → all_below (min entries bound) codes ≡ true
unfolding all_below
below-min entries bound e all_none = refl
below-min entries bound e (all_more {x = c} {xs = cs} h r) =
    let one = both_true (ltb c entries) (all_below entries cs) e in
    let low = ltb-true c entries one.0 in
    rw (lt-ltb c (min entries bound) (omega arith)) (below-min entries bound one.1 r)

-- ---- looked up

-- as many as there are codes
pub length-picked : (done : ℕ) (table : List ℤ) (codes : List ℕ) (olds : List ℤ) → length codes ≤ length olds → length (picked_all done table codes olds) ≡ length codes
unfolding picked_all
length-picked done table [] olds h = refl
length-picked done table (c ∷ cs) [] h = absurd (omega arith)
length-picked done table (c ∷ cs) (o ∷ os) h = ap suc (length-picked done table cs os (omega arith))

-- a code before the table's entries, among them, and after them
module _ (done : ℕ) (table : List ℤ) (code : ℕ) (old : ℤ) where
  picked_low : code < done → picked done table code old ≡ old
  unfolding picked
  picked_low h = rw (lt-ltb code done h)

  picked-in : done ≤ code → code - done < length table → picked done table code old ≡ get_or table (code - done) (pos 0)
  unfolding picked
  picked-in h k = rw (le-ltb code done h, lt-ltb (code - done) (length table) k)

  picked_high : done ≤ code → length table ≤ code - done → picked done table code old ≡ old
  unfolding picked
  picked_high h k = rw (le-ltb code done h, le-ltb (code - done) (length table) k)

-- two tables, one after the other, are one table: the second has the entries after the first's
picked-again : (first second : List ℤ) (code : ℕ) (old : ℤ)
    → picked (length first) second code (picked 0 first code old) ≡ picked 0 (first ++ second) code old
picked-again first second code old = go (dec_lt code (length first)) (dec_lt (code - length first) (length second))
  where
    both : length (first ++ second) ≡ length first + length second
    both = length-append first second

    go : Dec (code < length first) → Dec (code - length first < length second)
        → picked (length first) second code (picked 0 first code old) ≡ picked 0 (first ++ second) code old
    go (yes h) d =
        picked_low (length first) second code _ h
        ∙ picked-in 0 first code old zero-le (omega arith)
        ∙ ap (λ (k : ℕ). get_or first k (pos 0)) (sub-zero code)
        ∙ sym (get_or-append first second (pos 0) code h)
        ∙ sym (picked-in 0 (first ++ second) code old zero-le (omega (arith, both)) ∙ ap (λ (k : ℕ). get_or (first ++ second) k (pos 0)) (sub-zero code))
    go (no h) (yes k) =
        picked-in (length first) second code _ (omega arith) k
        ∙ sym (get_or-second first second code (omega arith))
        ∙ sym (picked-in 0 (first ++ second) code old zero-le (omega (arith, both)) ∙ ap (λ (k : ℕ). get_or (first ++ second) k (pos 0)) (sub-zero code))
    go (no h) (no k) =
        picked_high (length first) second code _ (omega arith) (omega arith)
        ∙ picked_high 0 first code old zero-le (omega arith)
        ∙ sym (picked_high 0 (first ++ second) code old zero-le (omega (arith, both)))

pub picked-tables : (first second : List ℤ) (codes : List ℕ) (olds : List ℤ)
    → picked_all (length first) second codes (picked_all 0 first codes olds) ≡ picked_all 0 (first ++ second) codes olds
unfolding picked_all
picked-tables first second [] olds = refl
picked-tables first second (c ∷ cs) [] = refl
picked-tables first second (c ∷ cs) (o ∷ os) = ap₂ (λ (v : ℤ) (vs : List ℤ). v ∷ vs) (picked-again first second c o) (picked-tables first second cs os)

-- no table changes nothing, and what stands after the codes is not looked at
pub picked_none : (codes : List ℕ) (olds : List ℤ) → length codes ≤ length olds → picked_all 0 [] codes olds ≡ take (length codes) olds
unfolding picked_all
picked_none [] olds h = refl
picked_none (c ∷ cs) [] h = absurd (omega arith)
picked_none (c ∷ cs) (o ∷ os) h = ap₂ (λ (v : ℤ) (vs : List ℤ). v ∷ vs) (picked_high 0 [] c o zero-le zero-le) (picked_none cs os (omega arith))

pub picked-front : (done : ℕ) (table : List ℤ) (codes : List ℕ) (xs ys : List ℤ) → length codes ≡ length xs
    → picked_all done table codes (xs ++ ys) ≡ picked_all done table codes xs
unfolding picked_all
picked-front done table [] xs ys h = refl
picked-front done table (c ∷ cs) [] ys h = absurd (omega arith)
picked-front done table (c ∷ cs) (x ∷ xs) ys h = ap (λ (r : List ℤ). picked done table c x ∷ r) (picked-front done table cs xs ys (omega arith))

-- a table of the first entries has the entry of every code that is below: the entries after them are not looked at
pub picked_all_lem : (table later : List ℤ) (codes : List ℕ) (olds : List ℤ) → length codes ≤ length olds → all_below (length table) codes ≡ true
    → picked_all 0 table codes olds ≡ map (λ code. get_or (table ++ later) code (pos 0)) codes
unfolding picked_all all_below
picked_all_lem table later [] olds h b = refl
picked_all_lem table later (c ∷ cs) [] h b = absurd (omega arith)
picked_all_lem table later (c ∷ cs) (o ∷ os) h b =
    let one = both_true (ltb c (length table)) (all_below (length table) cs) b in
    let low = ltb-true c (length table) one.0 in
    ap₂ (λ (v : ℤ) (vs : List ℤ). v ∷ vs)
    (picked-in 0 table c o zero-le (omega arith) ∙ ap (λ (k : ℕ). get_or table k (pos 0)) (sub-zero c) ∙ sym (get_or-append table later (pos 0) c low))
    (picked_all_lem table later cs os (omega arith) one.1)
