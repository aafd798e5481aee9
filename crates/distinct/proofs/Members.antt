-- Which keys a list has, as a test; and inserting by it. A key that a rising list has is not inserted again, any other makes the list longer by one, and the order of two
-- insertions does not matter. So keys that are inserted one after the other may be gathered in a list of their own first, and that one be inserted.
use mathlib.Core.Path.{◌≡◌, refl, sym, ap, ◌∙◌}
use mathlib.Core.Bool.{Bool, true, false, ◌||◌}
use mathlib.Core.List.{List, [], ◌∷◌}
use Prim.Native.Nat.{ℕ, suc}
use native.Mathlib.Omega.{arith}
use lib.IntN.{ℤ, pos, negsuc}
use lib.Signed.{lt_z}
use lib.ListN.{length}
use borrow.Author.Tests.{eq-eqb}
use Rattle.format.specs.Keys.{eq_z}
use Rattle.format.specs.Distinct.{insert, distinct_from, Rising}
use Rattle.format.proofs.Numbers.Order.{lt_z-trans, lt_z-neither, lt_z-self, eq_z-true}
use Rattle.distinct.specs.Collect.{has}

-- ---- the order of two keys

pub eq_z-self : (a : ℤ) → eq_z a a ≡ true
eq_z-self (pos a) = eq-eqb a a refl
eq_z-self (negsuc a) = eq-eqb a a refl

-- two keys: less, greater or the same
pub data Ordered (a b : ℤ) : Type 0 where
  less : lt_z a b ≡ true → Ordered a b
  same : a ≡ b → Ordered a b
  greater : lt_z b a ≡ true → Ordered a b

pub never_both : (a b : ℤ) → lt_z a b ≡ true → lt_z b a ≡ true → ⊥
never_both a b h k = let z : ◌≡◌ {A = ℕ} 0 1 = cc (lt_z-trans a b a h k, lt_z-self a) in omega arith

pub ordered : (a b : ℤ) → Ordered a b
ordered a b = go (lt_z a b) (lt_z b a) refl refl
  where
    go : (t u : Bool) → lt_z a b ≡ t → lt_z b a ≡ u → Ordered a b
    go true u h k = less h
    go false true h k = greater k
    go false false h k = same (lt_z-neither a b h k)

-- one that is less is not the same
pub eq_z-less : (a b : ℤ) → lt_z a b ≡ true → eq_z a b ≡ false
eq_z-less a b h = go (eq_z a b) refl
  where
    go : (t : Bool) → eq_z a b ≡ t → t ≡ false
    go true e = let self : lt_z a a ≡ true = ap (lt_z a) (eq_z-true a b e) ∙ h in absurd (never_both a a self self)
    go false e = refl

pub eq_z-greater : (a b : ℤ) → lt_z b a ≡ true → eq_z a b ≡ false
eq_z-greater a b h = go (eq_z a b) refl
  where
    go : (t : Bool) → eq_z a b ≡ t → t ≡ false
    go true e = let self : lt_z b b ≡ true = ap (lt_z b) (sym (eq_z-true a b e)) ∙ h in absurd (never_both b b self self)
    go false e = refl

-- ---- one insertion

pub not-above : (v x : ℤ) → lt_z v x ≡ true → lt_z x v ≡ false
not-above v x h = go (lt_z x v) refl
  where
    go : (t : Bool) → lt_z x v ≡ t → t ≡ false
    go true e = absurd (never_both v x h e)
    go false e = refl

module _ (v x : ℤ) (xs : List ℤ) where
  pub insert-below : lt_z v x ≡ true → insert v (x ∷ xs) ≡ v ∷ x ∷ xs
  unfolding insert
  insert-below h = rw (not-above v x h, h)

  pub insert-above : lt_z x v ≡ true → insert v (x ∷ xs) ≡ x ∷ insert v xs
  unfolding insert
  insert-above h = rw h

pub insert-head : (x : ℤ) (xs : List ℤ) → insert x (x ∷ xs) ≡ x ∷ xs
unfolding insert
insert-head x xs = rw (lt_z-self x)

-- ---- two insertions

-- a lesser key and a greater one
module _ (v w : ℤ) (h : lt_z v w ≡ true) where
  insert-two : (l : List ℤ) → insert v (insert w l) ≡ insert w (insert v l)
  unfolding insert
  insert-two [] = insert-below v w [] h ∙ sym (insert-above w v [] h)
  insert-two (x ∷ xs) = go (ordered v x) (ordered w x) (insert-two xs)
    where
      before : lt_z v x ≡ true → insert w (insert v (x ∷ xs)) ≡ v ∷ insert w (x ∷ xs)
      before a = ap (insert w) (insert-below v x xs a) ∙ insert-above w v (x ∷ xs) h

      go : Ordered v x → Ordered w x → insert v (insert w xs) ≡ insert w (insert v xs) → insert v (insert w (x ∷ xs)) ≡ insert w (insert v (x ∷ xs))
      go (less a) (less c) i = ap (insert v) (insert-below w x xs c) ∙ insert-below v w (x ∷ xs) h ∙ sym (before a ∙ ap (λ (l : List ℤ). v ∷ l) (insert-below w x xs c))
      go (less a) (same e) i =
          let is : insert w (x ∷ xs) ≡ x ∷ xs = ap (λ (y : ℤ). insert y (x ∷ xs)) e ∙ insert-head x xs in
          ap (insert v) is ∙ insert-below v x xs a ∙ sym (before a ∙ ap (λ (l : List ℤ). v ∷ l) is)
      go (less a) (greater d) i =
          ap (insert v) (insert-above w x xs d) ∙ insert-below v x (insert w xs) a ∙ sym (before a ∙ ap (λ (l : List ℤ). v ∷ l) (insert-above w x xs d))
      go (same e) (greater d) i =
          let is : (l : List ℤ) → insert v (x ∷ l) ≡ x ∷ l = λ l. ap (λ (y : ℤ). insert y (x ∷ l)) e ∙ insert-head x l in
          ap (insert v) (insert-above w x xs d) ∙ is (insert w xs) ∙ sym (ap (insert w) (is xs) ∙ insert-above w x xs d)
      go (greater b) (greater d) i =
          ap (insert v) (insert-above w x xs d)
          ∙ insert-above v x (insert w xs) b
          ∙ ap (λ (l : List ℤ). x ∷ l) i
          ∙ sym (ap (insert w) (insert-above v x xs b) ∙ insert-above w x (insert v xs) d)
      go (same e) (less c) i = absurd (never_both w v (ap (λ (y : ℤ). lt_z w y) e ∙ c) h)
      go (same e) (same f) i = let self : lt_z w w ≡ true = rw (e ∙ sym f) at h in absurd (never_both w w self self)
      go (greater b) (less c) i = absurd (never_both w v (lt_z-trans w x v c b) h)
      go (greater b) (same f) i = absurd (never_both v w h (ap (λ (y : ℤ). lt_z y v) f ∙ b))

-- their order does not matter
insert_comm : (v w : ℤ) (l : List ℤ) → insert v (insert w l) ≡ insert w (insert v l)
insert_comm v w l = go (ordered v w)
  where
    go : Ordered v w → insert v (insert w l) ≡ insert w (insert v l)
    go (less h) = insert-two v w h l
    go (same e) = rw e
    go (greater h) = sym (insert-two w v h l)

-- the same key again
insert-again : (v : ℤ) (l : List ℤ) → insert v (insert v l) ≡ insert v l
unfolding insert
insert-again v [] = insert-head v []
insert-again v (x ∷ xs) = go (ordered v x) (insert-again v xs)
  where
    go : Ordered v x → insert v (insert v xs) ≡ insert v xs → insert v (insert v (x ∷ xs)) ≡ insert v (x ∷ xs)
    go (less a) i = ap (insert v) (insert-below v x xs a) ∙ insert-head v (x ∷ xs) ∙ sym (insert-below v x xs a)
    go (same e) i = ap (insert v) (ap (λ (y : ℤ). insert y (x ∷ xs)) e ∙ insert-head x xs)
    go (greater b) i = ap (insert v) (insert-above v x xs b) ∙ insert-above v x (insert v xs) b ∙ ap (λ (l : List ℤ). x ∷ l) i ∙ sym (insert-above v x xs b)

-- ---- keys gathered first

-- a key inserted before the others is inserted after them
insert-through : (v : ℤ) (l vs : List ℤ) → distinct_from (insert v l) vs ≡ insert v (distinct_from l vs)
unfolding distinct_from
insert-through v l [] = refl
insert-through v l (w ∷ ws) = ap (λ (m : List ℤ). distinct_from m ws) (insert_comm w v l) ∙ insert-through v (insert w l) ws

-- a key gathered among the others is inserted with them
pub insert-into : (v : ℤ) (l vs : List ℤ) → distinct_from l (insert v vs) ≡ insert v (distinct_from l vs)
unfolding distinct_from insert
insert-into v l [] = refl
insert-into v l (x ∷ xs) = go (ordered v x) (insert-into v (insert x l) xs)
  where
    go : Ordered v x → distinct_from (insert x l) (insert v xs) ≡ insert v (distinct_from (insert x l) xs) → distinct_from l (insert v (x ∷ xs)) ≡ insert v (distinct_from (insert x l) xs)
    go (less a) i = ap (distinct_from l) (insert-below v x xs a) ∙ insert-through v l (x ∷ xs)
    go (same e) i =
        ap (λ (y : ℤ). distinct_from l (insert y (x ∷ xs))) e
        ∙ ap (distinct_from l) (insert-head x xs)
        ∙ ap (λ (m : List ℤ). distinct_from m xs) (sym (insert-again x l))
        ∙ insert-through x (insert x l) xs
        ∙ ap (λ (y : ℤ). insert y (distinct_from (insert x l) xs)) (sym e)
    go (greater b) i = ap (distinct_from l) (insert-above v x xs b) ∙ i

-- ---- what a list has

pub or-true : (t : Bool) → (t || true) ≡ true
or-true true = refl
or-true false = refl

pub has-none : (v : ℤ) → has [] v ≡ false
unfolding has
has-none v = refl

-- what is inserted, and what was there
pub has-insert : (w : ℤ) (l : List ℤ) (v : ℤ) → has (insert w l) v ≡ (eq_z w v || has l v)
unfolding insert has
has-insert w [] v = refl
has-insert w (x ∷ xs) v = go (ordered w x) (has-insert w xs v)
  where
    swap : (a b c : Bool) → (a || (b || c)) ≡ (b || (a || c))
    swap true true c = refl
    swap true false c = refl
    swap false true c = refl
    swap false false c = refl

    twice : (a b : Bool) → (a || b) ≡ (a || (a || b))
    twice true b = refl
    twice false b = refl

    go : Ordered w x → has (insert w xs) v ≡ (eq_z w v || has xs v) → has (insert w (x ∷ xs)) v ≡ (eq_z w v || (eq_z x v || has xs v))
    go (less a) i = ap (λ (l : List ℤ). has l v) (insert-below w x xs a)
    go (same e) i =
        ap (λ (y : ℤ). has (insert y (x ∷ xs)) v) e
        ∙ ap (λ (l : List ℤ). has l v) (insert-head x xs)
        ∙ twice (eq_z x v) (has xs v)
        ∙ ap (λ (y : ℤ). eq_z y v || (eq_z x v || has xs v)) (sym e)
    go (greater b) i = ap (λ (l : List ℤ). has l v) (insert-above w x xs b) ∙ ap (λ (t : Bool). eq_z x v || t) i ∙ swap (eq_z x v) (eq_z w v) (has xs v)

-- a list and what is inserted
pub has_both : (l vs : List ℤ) (v : ℤ) → has (distinct_from l vs) v ≡ (has l v || has vs v)
unfolding distinct_from has
has_both l [] v = or-false (has l v)
  where
    or-false : (t : Bool) → t ≡ (t || false)
    or-false true = refl
    or-false false = refl
has_both l (x ∷ xs) v = has_both (insert x l) xs v ∙ ap (λ (t : Bool). t || has xs v) (has-insert x l v) ∙ turn (eq_z x v) (has l v) (has xs v)
  where
    turn : (a b c : Bool) → ((a || b) || c) ≡ (b || (a || c))
    turn true true c = refl
    turn true false c = refl
    turn false true c = refl
    turn false false c = refl

-- what is inserted is had, and so is what was
pub has_new : (w : ℤ) (l : List ℤ) → has (insert w l) w ≡ true
has_new w l = has-insert w l w ∙ ap (λ (t : Bool). t || has l w) (eq_z-self w)

pub has-still : (w : ℤ) (l : List ℤ) (v : ℤ) → has l v ≡ true → has (insert w l) v ≡ true
has-still w l v h = has-insert w l v ∙ ap (λ (t : Bool). eq_z w v || t) h ∙ or-true (eq_z w v)

-- the first of rising values is less than any that the rest has
pub least : (x : ℤ) (xs : List ℤ) (v : ℤ) → Rising (x ∷ xs) → has xs v ≡ true → lt_z x v ≡ true
unfolding has
least x [] v r h = clash h
  where
    clash : false ≡ true → lt_z x v ≡ true
    clash e = let z : ◌≡◌ {A = ℕ} 0 1 = cc in absurd (omega arith)
least x (y ∷ ys) v r h = go (eq_z y v) refl h (least y ys v r.1)
  where
    go : (t : Bool) → eq_z y v ≡ t → (t || has ys v) ≡ true → (has ys v ≡ true → lt_z y v ≡ true) → lt_z x v ≡ true
    go true e h i = ap (lt_z x) (sym (eq_z-true y v e)) ∙ r.0
    go false e h i = lt_z-trans x y v r.0 (i h)

-- a key that a rising list has is not inserted
pub insert-had : (v : ℤ) (l : List ℤ) → Rising l → has l v ≡ true → insert v l ≡ l
unfolding has
insert-had v [] r h = let z : ◌≡◌ {A = ℕ} 0 1 = cc in absurd (omega arith)
insert-had v (x ∷ xs) r h = go (eq_z x v) refl h (insert-had v xs r.1)
  where
    go : (t : Bool) → eq_z x v ≡ t → (t || has xs v) ≡ true → (has xs v ≡ true → insert v xs ≡ xs) → insert v (x ∷ xs) ≡ x ∷ xs
    go true e h i = ap (λ (y : ℤ). insert y (x ∷ xs)) (sym (eq_z-true x v e)) ∙ insert-head x xs
    go false e h i = insert-above v x xs (least x xs v r h) ∙ ap (λ (l : List ℤ). x ∷ l) (i h)

-- any other is
pub insert-more : (v : ℤ) (l : List ℤ) → has l v ≡ false → length (insert v l) ≡ suc (length l)
unfolding has insert
insert-more v [] h = refl
insert-more v (x ∷ xs) h = go (ordered v x) (eq_z x v) refl h (insert-more v xs)
  where
    go : Ordered v x → (t : Bool) → eq_z x v ≡ t → (t || has xs v) ≡ false → (has xs v ≡ false → length (insert v xs) ≡ suc (length xs)) → length (insert v (x ∷ xs)) ≡ suc (suc (length xs))
    go o true e h i = let z : ◌≡◌ {A = ℕ} 0 1 = cc in absurd (omega arith)
    go (less a) false e h i = ap length (insert-below v x xs a)
    go (same f) false e h i = let g : eq_z x x ≡ false = ap (eq_z x) (sym f) ∙ e in let z : ◌≡◌ {A = ℕ} 0 1 = cc (eq_z-self x) in absurd (omega arith)
    go (greater b) false e h i = ap length (insert-above v x xs b) ∙ ap suc (i h)
