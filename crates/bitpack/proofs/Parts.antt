-- Parts of slices that are lent to a call, `&s[at..]` and `&mut s[at..]`, as the borrow checker states them: the first is what is left from `at` on, and after the
-- second the whole is what stood before `at` and then the part as it came back.
use mathlib.Core.Path.{◌≡◌, ap, ◌∙◌}
use Prim.Native.Nat.{ℕ, ◌-◌, ◌≤◌}
use native.Mathlib.Nat.{le_of_eq}
use mathlib.Core.List.{List, ◌++◌, append-nil}
use lib.ListN.{length, take, drop, length-drop}
use lib.Seq.{take_all, drop-length}
use borrow.Rule.Slice.PartMut.{put_mid, Post-is}

module _ {A : Type 0} where
  pub part-rest : (at : ℕ) (l : List A) → take (length l - at) (drop at l) ≡ drop at l
  part-rest at l = take_all (length l - at) (drop at l) (le_of_eq (length-drop at l))

  pub part-back : (at : ℕ) (l back : List A) → at ≤ length l → put_mid at (length l - at) l back ≡ take at l ++ back
  part-back at l back h =
      ap (λ (r : List A). take at l ++ (back ++ r)) (Post-is at (length l) l h ∙ drop-length l) ∙ ap (λ (r : List A). take at l ++ r) (append-nil back)
