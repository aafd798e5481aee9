-- The best candidate of a list of estimates: "the least length of an available candidate; equal, the lower `decode_cost_rank`; equal, the earlier".
-- Ranks and ids are below 8, so this order is that of the number (length * 8 + rank) * 8 + id, and every tie is settled by arithmetic. The search takes a
-- later candidate only for a lower length, or for the same length and a lower rank; the ids rise along the list, so the one held has the least number so far.
use mathlib.Core.Path.{◌≡◌, refl, sym, ap, subst}
use Prim.Native.Nat.{ℕ, ◌+◌, ◌*◌, ◌≤◌, ◌<◌}
use native.Mathlib.Nat.{le_refl, le_trans}
use native.Mathlib.Decide.{dec_lt}
use native.Mathlib.Omega.{arith}
use mathlib.Core.Bool.{Bool, true, false, cond, ◌&&◌, ◌||◌, false≢true}
use mathlib.Core.List.{List, [], ◌∷◌}
use mathlib.Core.Logic.{◌⊎◌, inl, inr}
use borrow.Author.Tests.{ltb-true, ltb-false, lt-ltb, le-ltb, eq-eqb, ne_eqb}
use lib.Dec.{ltb, eqb, lit≤}
use Rattle.format.specs.Encodings.{id_of, encodings, decode_cost_rank}
use Rattle.format.specs.Estimates.{length_in, available_in}
use Rattle.format.specs.Plan.{better, best_from, best}
use Rattle.format.specs.declared.encoding.Encoding.{Encoding}
use Rattle.format.specs.declared.encoding.Encoding.TheVariants.{Plain, Varint, BitPacked, FrameOfReference, RunLength, Dictionary, DeltaBinaryPacked}
use Rattle.format.specs.declared.SizeEstimates.{SizeEstimates}
use Rattle.format.proofs.Codecs.Encodings.{id_same, id_of-high, rank-small}

-- ---- the order of candidates as one number

-- length, then rank
abbrev cost : SizeEstimates → Encoding → ℕ
cost es e = length_in es e * 8 + decode_cost_rank e

-- length, then rank, then id
abbrev pub order : SizeEstimates → Encoding → ℕ
order es e = cost es e * 8 + id_of e

-- the test of two lengths and, if they are equal, of two ranks is one test of numbers
lexicographic : (l m r s : ℕ) → r < 8 → s < 8 → (ltb l m || (eqb l m && ltb r s)) ≡ ltb (l * 8 + r) (m * 8 + s)
lexicographic l m r s R S = go (dec_lt l m) (dec_lt m l)
  where
    by_rank : l ≡ m → (t : Bool) → ltb r s ≡ t → t ≡ ltb (l * 8 + r) (m * 8 + s)
    by_rank same true e = sym (lt-ltb (l * 8 + r) (m * 8 + s) (omega (arith, ltb-true r s e)))
    by_rank same false e = sym (le-ltb (l * 8 + r) (m * 8 + s) (omega (arith, ltb-false r s e)))

    go : Dec (l < m) → Dec (m < l) → (ltb l m || (eqb l m && ltb r s)) ≡ ltb (l * 8 + r) (m * 8 + s)
    go (yes less) more = rw (lt-ltb l m less) (sym (lt-ltb (l * 8 + r) (m * 8 + s) (omega arith)))
    go (no less) (yes more) = rw (le-ltb l m (omega arith), ne_eqb l m (omega arith)) (sym (le-ltb (l * 8 + r) (m * 8 + s) (omega arith)))
    go (no less) (no more) = rw (le-ltb l m (omega arith), eq-eqb l m (omega arith)) (by_rank (omega arith) (ltb r s) refl)

-- so e better b exactly if it is available and costs less
better-cost : (es : SizeEstimates) (e b : Encoding) → better es e b ≡ (available_in es e && ltb (cost es e) (cost es b))
unfolding better
better-cost es e b =
    ap (λ (t : Bool). available_in es e && t)
    (lexicographic (length_in es e) (length_in es b) (decode_cost_rank e) (decode_cost_rank b) (rank-small e) (rank-small b))

-- where it does,
better-true : (es : SizeEstimates) (e b : Encoding) → better es e b ≡ true → (available_in es e ≡ true) × (cost es e < cost es b)
better-true es e b h = go (available_in es e) (rw better-cost at h)
  where
    go : (t : Bool) → (t && ltb (cost es e) (cost es b)) ≡ true → (t ≡ true) × (cost es e < cost es b)
    go true k = (refl, ltb-true (cost es e) (cost es b) k)
    go false k = absurd (false≢true k)

-- and where it does not, though it is available
better-false : (es : SizeEstimates) (e b : Encoding) → better es e b ≡ false → available_in es e ≡ true → cost es b ≤ cost es e
better-false es e b h there = ltb-false (cost es e) (cost es b) (rw (better-cost, there) at h)

-- ---- the search

-- e stands in a list
abbrev Among : Encoding → List Encoding → Type 0
Among e [] = ⊥
Among e (d ∷ l) = (d ≡ e) ⊎ Among e l

-- the ids of a list rise from i on
data Rising : ℕ → List Encoding → Type 0 where
  none : {i : ℕ} → Rising i []
  more : {i : ℕ} {e : Encoding} {l : List Encoding} → i ≤ id_of e → Rising (id_of e) l → Rising i (e ∷ l)

-- of b and a list after it, `found` is the best: it is available if b is, and comes no later than b or any available e of the list
record BestAmong (es : SizeEstimates) (b : Encoding) (l : List Encoding) (found : Encoding) : Type 0 where
  available-too : available_in es b ≡ true → available_in es found ≡ true
  not-after-b : order es found ≤ order es b
  not_after : (e : Encoding) → Among e l → available_in es e ≡ true → order es found ≤ order es e

-- e better b, so the best of e and the rest is the best of b, e and the rest
best-taken :
    (es : SizeEstimates) (b e : Encoding) (l : List Encoding) (found : Encoding) → better es e b ≡ true
    → BestAmong es e l found → BestAmong es b (e ∷ l) found
best-taken es b e l found t h =
    let less : (available_in es e ≡ true) × (cost es e < cost es b) = better-true es e b t in
    record {
      available-too = λ there. h.available-too less.0;
      not-after-b = le_trans h.not-after-b (omega (arith, less.1, id_of-high e));
      not_after = λ d m there. elim m [
        | inl p ↦ subst (λ (x : Encoding). order es found ≤ order es x) p h.not-after-b
        | inr n ↦ h.not_after d n there
      ];
    }

-- e does not beat b, which has no later id, so the best of b and the rest is the best of b, e and the rest
best-passed :
    (es : SizeEstimates) (b e : Encoding) (l : List Encoding) (found : Encoding) → better es e b ≡ false → id_of b ≤ id_of e
    → BestAmong es b l found → BestAmong es b (e ∷ l) found
best-passed es b e l found t earlier h =
    record {
      available-too = h.available-too;
      not-after-b = h.not-after-b;
      not_after = λ d m there. elim m [
        | inl p ↦
            let cheaper : cost es b ≤ cost es e = better-false es e b t (subst (λ (x : Encoding). available_in es x ≡ true) (sym p) there) in
            le_trans h.not-after-b (subst (λ (x : Encoding). order es b ≤ order es x) p (omega arith))
        | inr n ↦ h.not_after d n there
      ];
    }

-- the search finds the best of b and a list whose ids rise from b's or a later one
best_from-best : (es : SizeEstimates) (b : Encoding) {i : ℕ} {l : List Encoding} → id_of b ≤ i → Rising i l → BestAmong es b l (best_from es b l)
unfolding best_from
best_from-best es b h none = record { available-too = λ there. there; not-after-b = le_refl _; not_after = λ e m there. absurd m }
best_from-best es b h (more {e = e} {l = l} k r) =
    go (better es e b) refl (best_from-best es e (le_refl _) r) (best_from-best es b (le_trans h k) r)
  where
    go : (t : Bool) → better es e b ≡ t → BestAmong es e l (best_from es e l) → BestAmong es b l (best_from es b l)
        → BestAmong es b (e ∷ l) (best_from es (cond t e b) l)
    go true t from-e from-b = best-taken es b e l (best_from es e l) t from-e
    go false t from-e from-b = best-passed es b e l (best_from es b l) t (le_trans h k) from-b

-- the ids of the seven rise,
encodings-rising : Rising 1 encodings
unfolding encodings
encodings-rising = more (lit≤ tt) (more (lit≤ tt) (more (lit≤ tt) (more (lit≤ tt) (more (lit≤ tt) (more (lit≤ tt) (more (lit≤ tt) none))))))

-- and every encoding is one of them
encodings-all : (e : Encoding) → Among e encodings
unfolding encodings
encodings-all Plain = inl refl
encodings-all Varint = inr (inl refl)
encodings-all BitPacked = inr (inr (inl refl))
encodings-all FrameOfReference = inr (inr (inr (inl refl)))
encodings-all RunLength = inr (inr (inr (inr (inl refl))))
encodings-all Dictionary = inr (inr (inr (inr (inr (inl refl)))))
encodings-all DeltaBinaryPacked = inr (inr (inr (inr (inr (inr (inl refl))))))

-- ---- the best candidate

-- b is the best: it is available, and comes no later than any other that is, by length, then rank, then id
pub record Best (es : SizeEstimates) (b : Encoding) : Type 0 where
  pub available : available_in es b ≡ true
  pub first : (e : Encoding) → available_in es e ≡ true → order es b ≤ order es e

-- `best` is the best, if Plain is available
pub best-is : (es : SizeEstimates) → available_in es Plain ≡ true → Best es (best es)
unfolding best
best-is es plain =
    let found : BestAmong es Plain encodings (best_from es Plain encodings) = best_from-best es Plain (le_refl _) encodings-rising in
    record { available = found.available-too plain; first = λ e there. found.not_after e (encodings-all e) there }

module _ (es : SizeEstimates) (b : Encoding) (h : Best es b) (e : Encoding) (there : available_in es e ≡ true) where
  -- "the least length of an available candidate"
  pub best-least : length_in es b ≤ length_in es e
  best-least = omega (arith, h.first e there, id_of-high e, rank-small e)

  -- "equal, the lower `decode_cost_rank`"
  pub best-rank : length_in es b ≡ length_in es e → decode_cost_rank b ≤ decode_cost_rank e
  best-rank same = omega (arith, h.first e there, id_of-high e)

  -- "equal, the earlier"
  pub best-earliest : length_in es b ≡ length_in es e → decode_cost_rank b ≡ decode_cost_rank e → id_of b ≤ id_of e
  best-earliest same same_rank = omega (arith, h.first e there)

-- there is only one best
pub best-one : (es : SizeEstimates) (a b : Encoding) → Best es a → Best es b → a ≡ b
best-one es a b p q = id_same a b (omega (arith, p.first b q.available, q.first a p.available, id_of-high a, id_of-high b))
