-- The distinct values of a column: how many there are, that the walk capped at 16,384 gives all of them where there are no more, that they are the column's
-- values, and that they rise. Each law is one of `insert`, which adds one value at most and none that is there, followed along the walk.
use mathlib.Core.Path.{◌≡◌, refl, sym, ap, ◌∙◌}
use Prim.Native.Nat.{suc, ◌+◌, min, ◌≤◌, ◌<◌}
use native.Mathlib.Nat.{le_refl, le_trans, le_of_eq}
use native.Mathlib.Omega.{arith}
use mathlib.Core.Bool.{Bool, true, false, cond}
use mathlib.Core.List.{List, [], ◌∷◌, ◌++◌}
use lib.IntN.{ℤ}
use lib.Dec.{ltb}
use lib.Signed.{lt_z}
use lib.ListN.{length}
use borrow.Author.Tests.{ltb-true, ltb-false, le-ltb, lt-ltb}
use Rattle.format.specs.Keys.{Key}
use Rattle.format.specs.Encodings.{max_dictionary_cardinality}
use Rattle.format.specs.Distinct.{insert, distinct_from, distinct, Under, Rising, too_many_distinct, capped_distinct_from, capped_distinct}
use Rattle.format.specs.Statistics.{distinct_values}
use Rattle.format.proofs.Numbers.All.{all_more, all_none, All}

-- taking a value in loses none
pub insert-grows : (v : ℤ) (held : List ℤ) → length held ≤ length (insert v held)
unfolding insert
insert-grows v [] = omega arith
insert-grows v (x ∷ xs) = go (lt_z x v) (lt_z v x) (insert-grows v xs)
  where
    go : (a b : Bool) → length xs ≤ length (insert v xs) → length (x ∷ xs) ≤ length (cond a (x ∷ insert v xs) (cond b (v ∷ x ∷ xs) (x ∷ xs)))
    go true b i = omega arith
    go false true i = omega arith
    go false false i = le_refl _

-- and adds one at most
pub length-insert : (v : ℤ) (held : List ℤ) → length (insert v held) ≤ suc (length held)
unfolding insert
length-insert v [] = omega arith
length-insert v (x ∷ xs) = go (lt_z x v) (lt_z v x) (length-insert v xs)
  where
    go : (a b : Bool) → length (insert v xs) ≤ suc (length xs) → length (cond a (x ∷ insert v xs) (cond b (v ∷ x ∷ xs) (x ∷ xs))) ≤ suc (length (x ∷ xs))
    go true b i = omega arith
    go false true i = omega arith
    go false false i = omega arith

-- where the count does not grow, the value was there
pub insert-same : (v : ℤ) (held : List ℤ) → length (insert v held) ≤ length held → insert v held ≡ held
unfolding insert
insert-same v [] h = absurd (omega arith)
insert-same v (x ∷ xs) h = go (lt_z x v) (lt_z v x) (insert-same v xs) h
  where
    go : (a b : Bool) → (length (insert v xs) ≤ length xs → insert v xs ≡ xs)
        → length (cond a (x ∷ insert v xs) (cond b (v ∷ x ∷ xs) (x ∷ xs))) ≤ length (x ∷ xs)
        → cond a (x ∷ insert v xs) (cond b (v ∷ x ∷ xs) (x ∷ xs)) ≡ x ∷ xs
    go true b i h = ap (λ (l : List ℤ). x ∷ l) (i (omega arith))
    go false true i h = absurd (omega arith)
    go false false i h = refl

-- the walk loses none that is held
pub distinct_from-grows : (held vs : List ℤ) → length held ≤ length (distinct_from held vs)
unfolding distinct_from
distinct_from-grows held [] = le_refl _
distinct_from-grows held (v ∷ vs) = le_trans (insert-grows v held) (distinct_from-grows (insert v held) vs)

-- and adds at most what is to come
pub distinct_from-most : (held vs : List ℤ) → length (distinct_from held vs) ≤ length held + length vs
unfolding distinct_from
distinct_from-most held [] = omega arith
distinct_from-most held (v ∷ vs) = omega (arith, length-insert v held, distinct_from-most (insert v held) vs)

-- no more distinct values than values
pub length-distinct : (column : List ℤ) → length (distinct column) ≤ length column
unfolding distinct
length-distinct column = omega (arith, distinct_from-most [] column)

-- the walk that stops at 16,384 is the walk, where no more are met
capped_distinct_from-all : (held vs : List ℤ) → length (distinct_from held vs) ≤ max_dictionary_cardinality → capped_distinct_from held vs ≡ distinct_from held vs
unfolding distinct_from capped_distinct_from
capped_distinct_from-all held [] h = refl
capped_distinct_from-all held (v ∷ vs) h =
    ap (λ (l : List ℤ). capped_distinct_from l vs) (go (ltb (length held) max_dictionary_cardinality) refl) ∙ capped_distinct_from-all (insert v held) vs h
  where
    go : (t : Bool) → ltb (length held) max_dictionary_cardinality ≡ t → cond t (insert v held) held ≡ insert v held
    go true e = refl
    go false e =
        let full : max_dictionary_cardinality ≤ length held = ltb-false _ _ e in
        let top : length (insert v held) ≤ max_dictionary_cardinality = le_trans (distinct_from-grows (insert v held) vs) h in
        sym (insert-same v held (le_trans top full))

-- not too many: at most 16,384
pub few-distinct : (column : List ℤ) → too_many_distinct column ≡ false → length (distinct column) ≤ max_dictionary_cardinality
unfolding too_many_distinct
few-distinct column e = ltb-false _ _ e

-- and back
pub not-too_many_distinct : (column : List ℤ) → length (distinct column) ≤ max_dictionary_cardinality → too_many_distinct column ≡ false
unfolding too_many_distinct
not-too_many_distinct column h = le-ltb _ _ h

-- too many: more than 16,384
pub too_many_distinct-is : (column : List ℤ) → max_dictionary_cardinality < length (distinct column) → too_many_distinct column ≡ true
unfolding too_many_distinct
too_many_distinct-is column h = lt-ltb _ _ h

-- the scratch's front holds all the distinct values, where there are not too many
pub capped_distinct-all : (column : List ℤ) → length (distinct column) ≤ max_dictionary_cardinality → capped_distinct column ≡ distinct column
unfolding capped_distinct distinct
capped_distinct-all column h = capped_distinct_from-all [] column h

-- the part that is handed back is all of them, where there are not too many
pub distinct_values-all : (column : List ℤ) → length (distinct column) ≤ max_dictionary_cardinality → distinct_values column ≡ distinct column
unfolding distinct_values
distinct_values-all column h = rw (not-too_many_distinct column h)

-- where there are too many, none is handed back
pub distinct_values-none : (column : List ℤ) → max_dictionary_cardinality < length (distinct column) → distinct_values column ≡ []
unfolding distinct_values
distinct_values-none column h = rw (too_many_distinct-is column h)

-- ---- how many the scratch's front holds

-- once 16,384 are held no value is taken in
capped_distinct_from-full : (held vs : List ℤ) → max_dictionary_cardinality ≤ length held → capped_distinct_from held vs ≡ held
unfolding capped_distinct_from
capped_distinct_from-full held [] h = refl
capped_distinct_from-full held (v ∷ vs) h = rw (le-ltb (length held) max_dictionary_cardinality h) (capped_distinct_from-full held vs h)

-- the distinct values, up to 16,384
length-capped_distinct_from : (held vs : List ℤ) → length held ≤ max_dictionary_cardinality → length (capped_distinct_from held vs) ≡ min max_dictionary_cardinality (length (distinct_from held vs))
unfolding distinct_from capped_distinct_from
length-capped_distinct_from held [] h = omega arith
length-capped_distinct_from held (v ∷ vs) h = go (ltb (length held) max_dictionary_cardinality) refl (length-capped_distinct_from (insert v held) vs)
  where
    go : (t : Bool) → ltb (length held) max_dictionary_cardinality ≡ t
        → (length (insert v held) ≤ max_dictionary_cardinality → length (capped_distinct_from (insert v held) vs) ≡ min max_dictionary_cardinality (length (distinct_from (insert v held) vs)))
        → length (capped_distinct_from (cond t (insert v held) held) vs) ≡ min max_dictionary_cardinality (length (distinct_from (insert v held) vs))
    go true e i = i (omega (arith, ltb-true (length held) max_dictionary_cardinality e, length-insert v held))
    go false e i =
        let full : max_dictionary_cardinality ≤ length held = ltb-false (length held) max_dictionary_cardinality e in
        rw (capped_distinct_from-full held vs full) (omega (arith, insert-grows v held, distinct_from-grows (insert v held) vs))

-- of a column
pub length-capped_distinct : (column : List ℤ) → length (capped_distinct column) ≡ min max_dictionary_cardinality (length (distinct column))
unfolding capped_distinct distinct
length-capped_distinct column = length-capped_distinct_from [] column (omega arith)

-- "the first 16,384 met": once the front of a column has 16,384, what comes after it adds none
capped_distinct_from-append :
    (held xs ys : List ℤ) → capped_distinct_from held (xs ++ ys) ≡ capped_distinct_from (capped_distinct_from held xs) ys
unfolding capped_distinct_from
capped_distinct_from-append held [] ys = refl
capped_distinct_from-append held (x ∷ xs) ys = capped_distinct_from-append (cond (ltb (length held) max_dictionary_cardinality) (insert x held) held) xs ys

pub capped_distinct-first : (xs ys : List ℤ) → length (distinct xs) ≡ max_dictionary_cardinality → capped_distinct (xs ++ ys) ≡ distinct xs
unfolding capped_distinct
capped_distinct-first xs ys full =
    capped_distinct_from-append [] xs ys
    ∙ ap (λ (held : List ℤ). capped_distinct_from held ys) (capped_distinct-all xs (le_of_eq full))
    ∙ capped_distinct_from-full (distinct xs) ys (le_of_eq (sym full))

-- so a scratch of the size that is asked for has room for them
pub capped_distinct-most : (column : List ℤ) → length (capped_distinct column) ≤ min (length column) max_dictionary_cardinality
capped_distinct-most column = omega (arith, length-capped_distinct column, length-distinct column)

-- ---- they are among the column's values

module _ (P : ℤ → Type 0) where
  has-step : (v x : ℤ) (xs : List ℤ) → P v → P x → All P xs → All P (insert v xs) → (t u : Bool)
      → All P (cond t (x ∷ insert v xs) (cond u (v ∷ x ∷ xs) (x ∷ xs)))
  has-step v x xs p q r ih true u = all_more q ih
  has-step v x xs p q r ih false true = all_more p (all_more q r)
  has-step v x xs p q r ih false false = all_more q r

  -- what holds of a value and of a list holds of the list with the value inserted
  insert-has : {xs : List ℤ} (v : ℤ) → P v → All P xs → All P (insert v xs)
  unfolding insert
  insert-has v p all_none = all_more p all_none
  insert-has v p (all_more {x} {xs} q r) = has-step v x xs p q r (insert-has v p r) (lt_z x v) (lt_z v x)

  pub distinct_from-has : {held vs : List ℤ} → All P held → All P vs → All P (distinct_from held vs)
  unfolding distinct_from
  distinct_from-has h all_none = h
  distinct_from-has {held = held} h (all_more {x = x} p r) = distinct_from-has {held = insert x held} (insert-has x p h) r

  -- what holds of every value of a column holds of its distinct values
  pub distinct-has : {column : List ℤ} → All P column → All P (distinct column)
  unfolding distinct
  distinct-has r = distinct_from-has all_none r

-- the distinct values of a column of keys are keys
pub distinct-keys : {column : List ℤ} → All Key column → All Key (distinct column)
distinct-keys ks = distinct-has Key ks

-- ---- they rise

under-step :
    (v x y : ℤ) (ys : List ℤ) → lt_z x v ≡ true → lt_z x y ≡ true → (t u : Bool)
    → Under x (cond t (y ∷ insert v ys) (cond u (v ∷ y ∷ ys) (y ∷ ys)))
under-step v x y ys h k true u = k
under-step v x y ys h k false true = h
under-step v x y ys h k false false = k

-- what is less than v and than the first of a list is less than the first once v is inserted
insert-under : (v x : ℤ) (xs : List ℤ) → lt_z x v ≡ true → Under x xs → Under x (insert v xs)
unfolding insert
insert-under v x [] h u = h
insert-under v x (y ∷ ys) h u = under-step v x y ys h u (lt_z y v) (lt_z v y)

rising_step :
    (v x : ℤ) (xs : List ℤ) → Rising (x ∷ xs) → Rising (insert v xs) → (t u : Bool) → lt_z x v ≡ t → lt_z v x ≡ u
    → Rising (cond t (x ∷ insert v xs) (cond u (v ∷ x ∷ xs) (x ∷ xs)))
rising_step v x xs r ih true u h k = (insert-under v x xs h r.0, ih)
rising_step v x xs r ih false true h k = (k, r)
rising_step v x xs r ih false false h k = r

-- inserting keeps a list rising
pub insert-rising : (v : ℤ) (xs : List ℤ) → Rising xs → Rising (insert v xs)
unfolding insert
insert-rising v [] r = (tt, tt)
insert-rising v (x ∷ xs) r = rising_step v x xs r (insert-rising v xs r.1) (lt_z x v) (lt_z v x) refl refl

pub distinct_from-rising : (held vs : List ℤ) → Rising held → Rising (distinct_from held vs)
unfolding distinct_from
distinct_from-rising held [] r = r
distinct_from-rising held (v ∷ vs) r = distinct_from-rising (insert v held) vs (insert-rising v held r)

-- "the distinct values rising"
pub distinct-rising : (column : List ℤ) → Rising (distinct column)
unfolding distinct
distinct-rising column = distinct_from-rising [] column tt

-- the same for the capped walk, which inserts fewer of them
capped-step : (held vs : List ℤ) (v : ℤ) → Rising held → (t : Bool) → ((l : List ℤ) → Rising l → Rising (capped_distinct_from l vs))
    → Rising (capped_distinct_from (cond t (insert v held) held) vs)
capped-step held vs v r true ih = ih (insert v held) (insert-rising v held r)
capped-step held vs v r false ih = ih held r

capped_distinct_from-rising : (held vs : List ℤ) → Rising held → Rising (capped_distinct_from held vs)
unfolding capped_distinct_from
capped_distinct_from-rising held [] r = r
capped_distinct_from-rising held (v ∷ vs) r =
    capped-step held vs v r (ltb (length held) max_dictionary_cardinality) (λ l q. capped_distinct_from-rising l vs q)

pub capped_distinct-rising : (column : List ℤ) → Rising (capped_distinct column)
unfolding capped_distinct
capped_distinct-rising column = capped_distinct_from-rising [] column tt
