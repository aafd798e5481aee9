-- Values by their deltas, stored part by part. The sums of two parts in a row are those of the first, and those of the second from the last of the first on, which
-- is the value that was stored last. A loop that stores sums keeps this: when the deltas left are summed behind where it stands, all of them are summed behind where
-- it began (`Summing`).
use mathlib.Core.Path.{◌≡◌, refl, sym, ap, ap₂, ◌∙◌}
use mathlib.Core.List.{List, [], ◌∷◌, ◌++◌, append_assoc}
use Prim.Native.Nat.{ℕ, suc, ◌+◌, ◌-◌, ◌≤◌, ◌<◌}
use native.Mathlib.Nat.{add-zero}
use native.Mathlib.Numerals.{add-one}
use native.Mathlib.Omega.{arith}
use lib.IntN.{ℤ, pos}
use lib.ListN.{length, get_or, set, take, drop, length-set, length-drop}
use lib.Seq.{sets, sets-eq, length-sets, drop-drop, get_or-set_same}
use borrow.Rule.Slice.PartMut.{put_mid}
use Rattle.bitpack.proofs.Parts.{part-rest, part-back}
use Rattle.format.specs.Answers.{stored}
use Rattle.format.specs.Keys.{wrapping_add}
use Rattle.format.specs.Delta.{prefix_sums}
use Rattle.format.proofs.Codecs.Counts.{length-prefix_sums}
use Rattle.format.proofs.Numbers.Stores.{sets-append, sets-stored}
use Rattle.delta.specs.Summed.{summed}

-- ---- sums in two parts

-- the last of the sums, or `last` where there is none
unfoldable end_sum : ℤ → List ℤ → ℤ
end_sum last [] = last
end_sum last (d ∷ ds) = end_sum (wrapping_add last d) ds

prefix_sums-append : (last : ℤ) (a b : List ℤ) → prefix_sums last (a ++ b) ≡ prefix_sums last a ++ prefix_sums (end_sum last a) b
unfolding prefix_sums end_sum
prefix_sums-append last [] b = refl
prefix_sums-append last (d ∷ a) b = ap (λ (l : List ℤ). wrapping_add last d ∷ l) (prefix_sums-append (wrapping_add last d) a b)

-- where the last of them stands
end_sum-at : (a column : List ℤ) (last : ℕ) (v : ℤ) → last + length a < length column → get_or column last (pos 0) ≡ v
    → get_or (sets column (last + 1) (prefix_sums v a)) (last + length a) (pos 0) ≡ end_sum v a
unfolding prefix_sums end_sum
end_sum-at [] column last v h e = rw (add-zero last) e
end_sum-at (d ∷ a) column last v h e =
    let w : ℤ = wrapping_add v d in
    let next : List ℤ = set column (last + 1) w in
    let place : last + suc (length a) ≡ last + 1 + length a = omega arith in
    let room : last + 1 + length a < length next = rw length-set (omega arith) in
    ap₂ (λ (k at : ℕ). get_or (sets next k (prefix_sums w a)) at (pos 0)) (sym (add-one (last + 1))) place
    ∙ end_sum-at a next (last + 1) w room (get_or-set_same column (last + 1) w (pos 0) (omega arith))

summed-append : (column a b : List ℤ) (last : ℕ) → last + length a < length column → summed column last (a ++ b) ≡ summed (summed column last a) (last + length a) b
unfolding summed
summed-append column a b last h =
    let v : ℤ = get_or column last (pos 0) in
    let place : last + 1 + length (prefix_sums v a) ≡ last + length a + 1 = omega (arith, length-prefix_sums v a) in
    ap (sets column (last + 1)) (prefix_sums-append v a b)
    ∙ sets-append (prefix_sums v a) (prefix_sums (end_sum v a) b) column (last + 1)
    ∙ ap₂ (λ (k : ℕ) (z : ℤ). sets (sets column (last + 1) (prefix_sums v a)) k (prefix_sums z b)) place (sym (end_sum-at a column last v h refl))

length-summed : (column ds : List ℤ) (last : ℕ) → length (summed column last ds) ≡ length column
unfolding summed
length-summed column ds last = length-sets column (last + 1) (prefix_sums (get_or column last (pos 0)) ds)

-- ---- a part of a column, filled

pub part-filled : (l vs : List ℤ) (at : ℕ) {back : List ℤ} → at + length vs ≤ length l → back ≡ sets (take (length l - at) (drop at l)) 0 vs
    → put_mid at (length l - at) l back ≡ sets l at vs
unfolding stored
part-filled l vs at {back} h e =
    let room : length vs ≤ length (drop at l) = omega (arith, h, length-drop at l) in
    part-back at l back (omega arith)
    ∙ ap (λ (r : List ℤ). take at l ++ r) (e ∙ ap (λ (p : List ℤ). sets p 0 vs) (part-rest at l) ∙ sets-stored vs (drop at l) room)
    ∙ sym (append_assoc (take at l) vs (drop (length vs) (drop at l)))
    ∙ ap (λ (r : List ℤ). (take at l ++ vs) ++ r) (drop-drop (length vs) at l)
    ∙ sym (sets-eq vs l at h)

-- ---- a loop that stores sums

-- The deltas `all` are to be summed behind the value at `from` of l. `column` is what is there by now, `last` the place of the value that was stored last, and the
-- deltas `rest` are still to come.
pub record Summing (all l : List ℤ) (from : ℕ) (rest column : List ℤ) (last : ℕ) : Type 0 where
  pub same : summed column last rest ≡ summed l from all
  pub long : length column ≡ length l

module _ {all l : List ℤ} {from : ℕ} where
  pub summing-none : Summing all l from all l from
  summing-none = record { same = refl; long = refl }

  module _ {rest column : List ℤ} {last : ℕ} (s : Summing all l from rest column last) where
    -- a part of n deltas more
    pub summing-part : {n : ℕ} (a b : List ℤ) → rest ≡ a ++ b → length a ≡ n → last + n < length column → Summing all l from b (summed column last a) (last + n)
    summing-part {n} a b e many h =
        let fits : last + length a < length column = omega arith in
        record {
          same = rw (← many) (sym (summed-append column a b last fits)) ∙ ap (summed column last) (sym e) ∙ s.same;
          long = length-summed column a last ∙ s.long;
        }

    -- nothing is left
    pub summing-done : rest ≡ [] → column ≡ summed l from all
    unfolding summed prefix_sums
    summing-done e = ap (summed column last) (sym e) ∙ s.same
