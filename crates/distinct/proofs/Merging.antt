-- Merging in place, from the top down. The greatest of all values is the last of one of the two lists: it goes to the last place that is not done, and what is left, merged, makes the
-- same whole (`merged`). A key that is in both lists would make the whole shorter than there are places; so there is none.
use mathlib.Core.Path.{◌≡◌, refl, sym, ap, ◌∙◌}
use mathlib.Core.Bool.{Bool, true, false, ◌||◌}
use mathlib.Core.List.{List, [], ◌∷◌, ◌++◌, append_assoc}
use Prim.Native.Nat.{ℕ, zero, suc, ◌+◌, ◌-◌, ◌≤◌, ◌<◌}
use native.Mathlib.Nat.{add-zero}
use native.Mathlib.Omega.{arith}
use lib.IntN.{ℤ, pos, negsuc}
use lib.Signed.{lt_z, le_z}
use lib.ListN.{length, get_or, set, take, drop, length-append, length-set, take-append-drop}
use lib.Seq.{take-suc, drop-cons, take-set-le, drop-set-lt, get_or-set_same, length-take-le, take_all, get_or-take}
use borrow.Author.Tests.{lt-ltb, leb-false}
use Rattle.format.specs.Keys.{eq_z}
use Rattle.format.specs.Answers.{stored}
use Rattle.format.specs.Distinct.{insert, distinct_from, Rising}
use Rattle.format.proofs.Numbers.All.{All, all_none, all_more}
use Rattle.format.proofs.Numbers.Order.{lt_z-trans}
use Rattle.format.proofs.Numbers.Distinct.{distinct_from-most, distinct_from-has, distinct_from-rising}
use Rattle.distinct.specs.Collect.{has}
use Rattle.distinct.specs.Merge.{merged, Mergeable, Raised}
use Rattle.distinct.proofs.Members.{Ordered, less, same, greater, ordered, eq_z-self, insert-head, insert-above, insert-below, insert-had, or-true, has_both}

-- ---- lists that rise

-- every value is less than x
abbrev Beneath : ℤ → List ℤ → Type 0
Beneath x l = All (λ v. lt_z v x ≡ true) l

-- a part that rises
rising-front : (a b : List ℤ) → Rising (a ++ b) → Rising a
rising-front [] b r = tt
rising-front (x ∷ []) b r = (tt, tt)
rising-front (x ∷ y ∷ ys) b r = (r.0, rising-front (y ∷ ys) b r.1)

-- the last value is the greatest
rising-end : (a : List ℤ) (y : ℤ) → Rising (a ++ (y ∷ [])) → Beneath y a
rising-end [] y r = all_none
rising-end (x ∷ []) y r = all_more r.0 all_none
rising-end (x ∷ z ∷ zs) y r = go (rising-end (z ∷ zs) y r.1)
  where
    go : Beneath y (z ∷ zs) → Beneath y (x ∷ z ∷ zs)
    go (all_more h t) = all_more (lt_z-trans x z y r.0 h) (all_more h t)

beneath-end : (a : List ℤ) (y : ℤ) → Beneath y a → (x : ℤ) → lt_z y x ≡ true → Beneath x (a ++ (y ∷ []))
beneath-end [] y all_none x h = all_more h all_none
beneath-end (v ∷ vs) y (all_more k r) x h = all_more (lt_z-trans v y x k h) (beneath-end vs y r x h)

-- ---- inserting below and above

-- what is less than x goes before it
insert-before : (v x : ℤ) (a : List ℤ) → lt_z v x ≡ true → insert v (a ++ (x ∷ [])) ≡ insert v a ++ (x ∷ [])
unfolding insert
insert-before v x [] h = insert-below v x [] h
insert-before v x (y ∷ ys) h = go (ordered v y) (insert-before v x ys h)
  where
    go : Ordered v y → insert v (ys ++ (x ∷ [])) ≡ insert v ys ++ (x ∷ []) → insert v (y ∷ (ys ++ (x ∷ []))) ≡ insert v (y ∷ ys) ++ (x ∷ [])
    go (less k) i = insert-below v y (ys ++ (x ∷ [])) k ∙ sym (ap (λ (l : List ℤ). l ++ (x ∷ [])) (insert-below v y ys k))
    go (same e) i =
        ap (λ (z : ℤ). insert z (y ∷ (ys ++ (x ∷ [])))) e
        ∙ insert-head y (ys ++ (x ∷ []))
        ∙ sym (ap (λ (z : ℤ). insert z (y ∷ ys) ++ (x ∷ [])) e ∙ ap (λ (l : List ℤ). l ++ (x ∷ [])) (insert-head y ys))
    go (greater k) i = insert-above v y (ys ++ (x ∷ [])) k ∙ ap (λ (l : List ℤ). y ∷ l) i ∙ sym (ap (λ (l : List ℤ). l ++ (x ∷ [])) (insert-above v y ys k))

distinct-before : (x : ℤ) (a vs : List ℤ) → Beneath x vs → distinct_from (a ++ (x ∷ [])) vs ≡ distinct_from a vs ++ (x ∷ [])
unfolding distinct_from
distinct-before x a [] all_none = refl
distinct-before x a (v ∷ vs) (all_more h r) = ap (λ (l : List ℤ). distinct_from l vs) (insert-before v x a h) ∙ distinct-before x (insert v a) vs r

-- what is greater than all goes after them
insert-end : (y : ℤ) (l : List ℤ) → Beneath y l → insert y l ≡ l ++ (y ∷ [])
unfolding insert
insert-end y [] all_none = refl
insert-end y (x ∷ xs) (all_more h r) = insert-above y x xs h ∙ ap (λ (l : List ℤ). x ∷ l) (insert-end y xs r)

distinct-end : (y : ℤ) (a vs : List ℤ) → distinct_from a (vs ++ (y ∷ [])) ≡ insert y (distinct_from a vs)
unfolding distinct_from
distinct-end y a [] = refl
distinct-end y a (v ∷ vs) = distinct-end y (insert v a) vs

has_end : (x : ℤ) (a : List ℤ) → has (a ++ (x ∷ [])) x ≡ true
unfolding has
has_end x [] = ap (λ (t : Bool). t || false) (eq_z-self x)
has_end x (v ∷ vs) = rw (has_end x vs) (or-true (eq_z v x))

-- ---- one place more is done

drop-set : (s : List ℤ) (k : ℕ) (v : ℤ) → k < length s → drop k (set s k v) ≡ v ∷ drop (suc k) s
drop-set s k v h =
    drop-cons (set s k v) k (pos 0) (rw (length-set s k v) h)
    ∙ ap (λ (x : ℤ). x ∷ drop (suc k) (set s k v)) (get_or-set_same s k v (pos 0) h)
    ∙ ap (λ (l : List ℤ). v ∷ l) (drop-set-lt (suc k) s k v (omega arith))

one_more : (d : List ℤ) (x : ℤ) (t : List ℤ) → (d ++ (x ∷ [])) ++ t ≡ d ++ (x ∷ t)
one_more d x t = append_assoc d (x ∷ []) t

length-end : (d : List ℤ) (x : ℤ) → length (d ++ (x ∷ [])) ≡ suc (length d)
length-end d x = length-append d (x ∷ []) ∙ omega arith

-- some values that wait, and the last of them
split-last : (w : List ℤ) → 0 < length w → w ≡ take (length w - 1) w ++ (get_or w (length w - 1) (pos 0) ∷ [])
split-last w h =
    let n : suc (length w - 1) ≡ length w = omega arith in
    sym (take_all (length w) w (omega arith)) ∙ ap (λ (k : ℕ). take k w) (sym n) ∙ take-suc w (length w - 1) (pos 0) (omega arith)

-- ---- a front, and another beside it

-- both are the fronts of buffers
module _ (s p : List ℤ) {q : List ℤ} (held n : ℕ) (beside : n ≤ length p) (apart : length (distinct_from (take held s) (take n p)) ≡ held + n) (e : q ≡ take n p) where
  pub mergeable : held + n ≤ length s → Rising (take held s) → Rising (take n p) → Mergeable s held q
  mergeable room front rest =
      let m : length (take n p) ≡ n = length-take-le n p beside in
      rw e (record { room = rw m room; front = front; rest = rest; apart = apart ∙ ap (λ (k : ℕ). held + k) (sym m) })

  pub merged_stored : {after : List ℤ} → after ≡ merged s held q → after ≡ stored (distinct_from (take held s) (take n p)) s
  unfolding merged stored
  merged_stored {after} f =
      let m : length (take n p) ≡ n = length-take-le n p beside in
      f
      ∙ ap (merged s held) e
      ∙ ap (λ (k : ℕ). distinct_from (take held s) (take n p) ++ drop k s) (ap (λ (k : ℕ). held + k) m ∙ sym apart)

-- ---- the values above the last that waits go up

-- a value that is not at most the key is greater
above-most : (v key : ℤ) → le_z v key ≡ false → lt_z key v ≡ true
above-most (pos a) (pos b) h = lt-ltb b a (leb-false a b h)
above-most (pos a) (negsuc b) h = refl
above-most (negsuc a) (pos b) h = let z : ◌≡◌ {A = ℕ} 0 1 = cc in absurd (omega arith)
above-most (negsuc a) (negsuc b) h = lt-ltb a b (leb-false b a h)

pub raised-none : {s : List ℤ} {i : ℕ} {w : List ℤ} → Mergeable s i w → Raised s i w s i
raised-none m = record { long = refl; still = m; same = refl }

module _ (s : List ℤ) (i : ℕ) (w : List ℤ) (m : Mergeable s (suc i) w) (some : 0 < length w) {x : ℤ} (v : x ≡ get_or s i (pos 0)) (over : lt_z (get_or w (length w - 1) (pos 0)) x ≡ true) where
  abbrev at : ℕ
  at = i + length w

  last-front : take (suc i) s ≡ take i s ++ (x ∷ [])
  last-front = take-suc s i (pos 0) (omega (arith, m.room)) ∙ ap (λ (y : ℤ). take i s ++ (y ∷ [])) (sym v)

  whole : distinct_from (take (suc i) s) w ≡ distinct_from (take i s) w ++ (x ∷ [])
  whole =
      let split = split-last w some in
      let r : Rising (take (length w - 1) w ++ (get_or w (length w - 1) (pos 0) ∷ [])) = rw split at m.rest in
      let under : Beneath x w = rw split (beneath-end (take (length w - 1) w) (get_or w (length w - 1) (pos 0)) (rising-end (take (length w - 1) w) (get_or w (length w - 1) (pos 0)) r) x over) in
      ap (λ (l : List ℤ). distinct_from l w) last-front ∙ distinct-before x (take i s) w under

  raised-front : take i (set s at x) ≡ take i s
  raised-front = take-set-le i s at x (omega arith)

  raised-step : Raised s (suc i) w (set s at x) i
  unfolding merged
  raised-step =
      let n : suc i + length w ≡ suc at = omega arith in
      record {
        long = length-set s at x;
        still =
            record {
              room = rw (length-set s at x) (omega (arith, m.room));
              front = rw raised-front (rising-front (take i s) (x ∷ []) (rw last-front at m.front));
              rest = m.rest;
              apart = ap (λ (l : List ℤ). length (distinct_from l w)) raised-front ∙ omega (arith, m.apart, ap length whole, length-end (distinct_from (take i s) w) x);
            };
        same =
            ap (λ (l : List ℤ). distinct_from l w ++ drop at (set s at x)) raised-front
            ∙ ap (λ (l : List ℤ). distinct_from (take i s) w ++ l) (drop-set s at x (omega (arith, m.room)))
            ∙ sym (one_more (distinct_from (take i s) w) x (drop (suc at) s))
            ∙ ap (λ (l : List ℤ). l ++ drop (suc at) s) (sym whole)
            ∙ ap (λ (k : ℕ). distinct_from (take (suc i) s) w ++ drop k s) (sym n);
      }

pub raised-more : {old : List ℤ} {from : ℕ} {w s : List ℤ} {i : ℕ} {x : ℤ} → Raised old from w s i → 0 < length w → 0 < i → x ≡ get_or s (i - 1) (pos 0)
    → {key : ℤ} → le_z x key ≡ false → key ≡ get_or w (length w - 1) (pos 0) → Raised old from w (set s (i - 1 + length w) x) (i - 1)
raised-more {old} {from} {w} {s} {i} {x} g some h v {key} more k = go i refl g.still g.same h v
  where
    over : lt_z (get_or w (length w - 1) (pos 0)) x ≡ true
    over = above-most x (get_or w (length w - 1) (pos 0)) (rw k at more)

    go : (n : ℕ) → i ≡ n → Mergeable s n w → merged s n w ≡ merged old from w → 0 < n → x ≡ get_or s (i - 1) (pos 0) → Raised old from w (set s (i - 1 + length w) x) (i - 1)
    go zero e m f h v = absurd (omega arith)
    go (suc n) e m f h v =
        let less : i - 1 ≡ n = omega arith in
        let r = raised-step s n w m some (v ∙ ap (λ (k : ℕ). get_or s k (pos 0)) less) over in
        rw less (record { long = r.long ∙ g.long; still = r.still; same = r.same ∙ f })

-- ---- the last that waits takes its place

-- neither greater nor the same
lesser : (x y : ℤ) → (x ≡ y → ⊥) → lt_z y x ≡ false → lt_z x y ≡ true
lesser x y other k = go (ordered x y)
  where
    go : Ordered x y → lt_z x y ≡ true
    go (less h) = h
    go (same e) = absurd (other e)
    go (greater h) = cc

module _ (s : List ℤ) (i : ℕ) (p : List ℤ) (j : ℕ) (h : j < length p) (m : Mergeable s i (take (suc j) p)) {y : ℤ} (v : y ≡ get_or p j (pos 0))
    (settled : 0 < i → lt_z y (get_or s (i - 1) (pos 0)) ≡ false) where
  abbrev done : List ℤ
  done = distinct_from (take i s) (take j p)

  last-waiting : take (suc j) p ≡ take j p ++ (y ∷ [])
  last-waiting = take-suc p j (pos 0) h ∙ ap (λ (z : ℤ). take j p ++ (z ∷ [])) (sym v)

  count : (length (take (suc j) p) ≡ suc j) × (length (take j p) ≡ j)
  count = (length-take-le (suc j) p (omega arith), length-take-le j p (omega arith))

  -- with it the whole has one more
  longer : length (insert y done) ≡ i + suc j
  longer = sym (ap length (ap (distinct_from (take i s)) last-waiting ∙ distinct-end y (take i s) (take j p))) ∙ m.apart ∙ ap (λ (k : ℕ). i + k) count.0

  waiting-rises : Rising (take j p ++ (y ∷ []))
  waiting-rises = rw last-waiting at m.rest

  -- so the scratch's front does not have it
  front-other : has (take i s) y ≡ true → ⊥
  front-other e =
      let had : has done y ≡ true = has_both (take i s) (take j p) y ∙ ap (λ (t : Bool). t || has (take j p) y) e in
      let short = ap length (insert-had y done (distinct_from-rising (take i s) (take j p) m.front) had) in
      omega (arith, short, longer, distinct_from-most (take i s) (take j p), count.1, length-take-le i s (omega (arith, m.room, count.0)))

  -- and is below it
  front-beneath : Beneath y (take i s)
  front-beneath = go i refl settled
    where
      go : (n : ℕ) → i ≡ n → (0 < n → lt_z y (get_or s (i - 1) (pos 0)) ≡ false) → Beneath y (take i s)
      go zero e q = rw e all_none
      go (suc n) e q =
          let less : i - 1 ≡ n = omega arith in
          let there : n < length s = omega (arith, m.room, count.0) in
          let split : take i s ≡ take n s ++ (get_or s n (pos 0) ∷ []) = ap (λ (k : ℕ). take k s) e ∙ take-suc s n (pos 0) there in
          let not-over : lt_z y (get_or s n (pos 0)) ≡ false = ap (λ (k : ℕ). lt_z y (get_or s k (pos 0))) (sym less) ∙ q (omega arith) in
          let up = rising-end (take n s) (get_or s n (pos 0)) (rw split at m.front) in
          let other : get_or s n (pos 0) ≡ y → ⊥ =
          λ e. front-other (ap (λ (l : List ℤ). has l y) split ∙ ap (λ (z : ℤ). has (take n s ++ (z ∷ [])) y) e ∙ has_end y (take n s)) in
          rw split (beneath-end (take n s) (get_or s n (pos 0)) up y (lesser (get_or s n (pos 0)) y other not-over))

  waiting-beneath : Beneath y done
  waiting-beneath = distinct_from-has (λ z. lt_z z y ≡ true) front-beneath (rising-end (take j p) y waiting-rises)

  last-whole : distinct_from (take i s) (take (suc j) p) ≡ done ++ (y ∷ [])
  last-whole = ap (distinct_from (take i s)) last-waiting ∙ distinct-end y (take i s) (take j p) ∙ insert-end y done waiting-beneath

  placed-front : take i (set s (i + j) y) ≡ take i s
  placed-front = take-set-le i s (i + j) y (omega arith)

  placed-step : Mergeable (set s (i + j) y) i (take j p) × (merged (set s (i + j) y) i (take j p) ≡ merged s i (take (suc j) p))
  unfolding merged
  placed-step =
      let n : i + length (take (suc j) p) ≡ suc (i + j) = omega (arith, count.0) in (
        record {
          room = rw (length-set s (i + j) y) (omega (arith, m.room, count.0, count.1));
          front = rw placed-front m.front;
          rest = rising-front (take j p) (y ∷ []) waiting-rises;
          apart = ap (λ (l : List ℤ). length (distinct_from l (take j p))) placed-front ∙ omega (arith, longer, ap length (insert-end y done waiting-beneath), length-end done y, count.1);
        },
        ap (λ (l : List ℤ). distinct_from l (take j p) ++ drop (i + length (take j p)) (set s (i + j) y)) placed-front
            ∙ ap (λ (k : ℕ). done ++ drop (i + k) (set s (i + j) y)) count.1
            ∙ ap (λ (l : List ℤ). done ++ l) (drop-set s (i + j) y (omega (arith, m.room, count.0)))
            ∙ sym (one_more done y (drop (suc (i + j)) s))
            ∙ ap (λ (l : List ℤ). l ++ drop (suc (i + j)) s) (sym last-whole)
            ∙ ap (λ (k : ℕ). distinct_from (take i s) (take (suc j) p) ++ drop k s) (sym n),
      )

-- ---- the walk

pub record Merging (old : List ℤ) (held : ℕ) (p s : List ℤ) (i j : ℕ) : Type 0 where
  pub upto : j ≤ length p
  pub long : length s ≡ length old
  pub still : Mergeable s i (take j p)
  pub same : merged s i (take j p) ≡ merged old held p

module _ {old : List ℤ} {held : ℕ} {p : List ℤ} where
  pub merging-none : Mergeable old held p → Merging old held p old held (length p)
  merging-none m =
      let all = take_all (length p) p (omega arith) in
      record { upto = omega arith; long = refl; still = rw all m; same = ap (merged old held) all }

  -- one that waits: what is greater goes up, and it takes its place
  pub merging-more : {s : List ℤ} {i j : ℕ} → Merging old held p s i j → 0 < j → {raised : List ℤ} {n : ℕ} → Raised s i (take j p) raised n → {y : ℤ} → y ≡ get_or p (j - 1) (pos 0)
      → (0 < n → lt_z (get_or (take j p) (length (take j p) - 1) (pos 0)) (get_or raised (n - 1) (pos 0)) ≡ false) → Merging old held p (set raised (n + (j - 1)) y) n (j - 1)
  merging-more {s} {i} {j} g h {raised} {n} r {y} v below = go j refl r.still (r.same ∙ g.same) h
    where
      last : get_or (take j p) (length (take j p) - 1) (pos 0) ≡ y
      last = ap (λ (k : ℕ). get_or (take j p) (k - 1) (pos 0)) (length-take-le j p g.upto) ∙ get_or-take j p (j - 1) (pos 0) (omega arith) ∙ sym v

      settled : 0 < n → lt_z y (get_or raised (n - 1) (pos 0)) ≡ false
      settled h = ap (λ (x : ℤ). lt_z x (get_or raised (n - 1) (pos 0))) (sym last) ∙ below h

      go : (k : ℕ) → j ≡ k → Mergeable raised n (take k p) → merged raised n (take k p) ≡ merged old held p → 0 < k → Merging old held p (set raised (n + (j - 1)) y) n (j - 1)
      go zero e m f h = absurd (omega arith)
      go (suc k) e m f h =
          let less : j - 1 ≡ k = omega arith in
          let step = placed-step raised n p k (omega (arith, g.upto)) m (v ∙ ap (λ (t : ℕ). get_or p t (pos 0)) less) settled in
          rw less (record { upto = omega (arith, g.upto); long = simp length-set (r.long ∙ g.long); still = step.0; same = step.1 ∙ f })

  -- all that waited
  pub merging-done : {s : List ℤ} {i j : ℕ} → Merging old held p s i j → j ≤ 0 → s ≡ merged old held p
  unfolding merged distinct_from
  merging-done {s} {i} {j} g h =
      let e : j ≡ 0 = omega arith in
      let f : take i s ++ drop (i + 0) s ≡ merged old held p = rw e at g.same in
      sym (take-append-drop i s) ∙ ap (λ (k : ℕ). take i s ++ drop k s) (sym (add-zero i)) ∙ f
