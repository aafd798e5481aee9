-- Lists of stores: a front that a loop fills element by element, and a run of bytes from a place on. A store is a `set`; each law splits the list at the place.
use mathlib.Core.Path.{◌≡◌, sym, ap, ap₂, ◌∙◌}
use Prim.Native.Nat.{ℕ, suc, ◌+◌, ◌-◌, ◌/◌, ◌%◌, ◌^◌, ◌≤◌, ◌<◌}
use native.Mathlib.Numerals.{add-one}
use native.Mathlib.Omega.{arith}
use mathlib.Core.List.{List, [], ◌∷◌, ◌++◌, append-nil, append_assoc}
use borrow.Rule.Slice.PartMut.{put_mid}
use lib.ListN.{length, get_or, set, take, drop, length-append, length-drop, drop_of_length-le}
use lib.Seq.{drop-cons, set_at, append_snoc, sets, sets-eq, length-take-le, take_at, drop-append-add, drop-drop}
use Rattle.format.specs.Digits.{digits}
use Rattle.format.proofs.Numbers.Digits.{length_digits}
use Rattle.format.proofs.Numbers.Places.{digits-add}
use Rattle.format.proofs.Numbers.Stores.{sets-append}

-- ---- a front over what was there

module _ (f l : List ℕ) (k : ℕ) (e : length f ≡ k) where
  -- one element more
  pub fill_step : (v : ℕ) → k < length l → set (f ++ drop k l) k v ≡ (f ++ (v ∷ [])) ++ drop (k + 1) l
  fill_step v h = rw (add-one k, drop-cons l k 0 h, append_snoc f v (drop (suc k) l)) (set_at f (get_or l k 0) (drop (suc k) l) v k e)

  -- a run more
  store-run : (g : List ℕ) (n : ℕ) → length g ≡ n → k + n ≤ length l → sets (f ++ drop k l) k g ≡ (f ++ g) ++ drop (k + n) l
  store-run g n eg h =
      let whole = f ++ drop k l in
      let room : k + length g ≤ length whole = omega (arith, length-append f (drop k l), length-drop k l) in
      sets-eq g whole k room
      ∙ ap₂ (λ (a b : List ℕ). a ++ g ++ b) (take_at f (drop k l) k e)
      (ap₂ (λ (a b : ℕ). drop (a + b) whole) (sym e) eg ∙ drop-append-add f (drop k l) n ∙ drop-drop n k l)

-- ---- the bytes of a number

-- one byte more of x, from p on
pub tail_step : (x j p : ℕ) (l : List ℕ) {y v : ℕ} {out : List ℕ} → out ≡ sets l p (digits 256 j x) → y ≡ x / 256 ^ j → v ≡ y % 256
    → set out (p + j) v ≡ sets l p (digits 256 (j + 1) x)
unfolding digits
tail_step x j p l eo ey ev =
    rw (eo, ev, ey, digits-add 256 j 1 x, sets-append (digits 256 j x) (x / 256 ^ j % 256 ∷ []) l p, length_digits 256 j x)

-- t bytes more of x, after its p lowest
pub store-digits : (x p t : ℕ) (l : List ℕ) → p + t ≤ length l
    → sets (digits 256 p x ++ drop p l) p (digits 256 t (x / 256 ^ p)) ≡ digits 256 (p + t) x ++ drop (p + t) l
store-digits x p t l h =
    rw (digits-add 256 p t x) (store-run (digits 256 p x) l p (length_digits 256 p x) (digits 256 t (x / 256 ^ p)) t (length_digits 256 t (x / 256 ^ p)) h)

-- ---- the t bytes from p on, as a part by itself

pub part_long : (p t : ℕ) (l : List ℕ) → p + t ≤ length l → length (take (p + t - p) (drop p l)) ≡ t
part_long p t l h = let n : p + t - p ≡ t = omega arith in rw n (length-take-le t (drop p l) (omega (arith, length-drop p l)))

pub part_stored : (x p t : ℕ) (l : List ℕ) {items : List ℕ} → p + t ≤ length l → items ≡ sets (take (p + t - p) (drop p l)) 0 (digits 256 t x)
    → put_mid p (p + t - p) l items ≡ sets l p (digits 256 t x)
part_stored x p t l {items} h e =
    let ds = digits 256 t x in
    let part = take (p + t - p) (drop p l) in
    let long = length_digits 256 t x in
    let n : p + t - p ≡ t = omega arith in
    let whole : items ≡ ds =
    e ∙ sets-eq ds part 0 (omega (arith, long, part_long p t l h))
    ∙ ap (λ (r : List ℕ). ds ++ r) (drop_of_length-le part (omega (arith, long, part_long p t l h)))
    ∙ append-nil ds
    in
    let rest = ap (λ (m : ℕ). take p l ++ ds ++ drop (p + m) l) (sym long) in
    rw (whole, n)
    (sym (append_assoc (take p l) ds (drop t (drop p l)))
    ∙ ap (λ (r : List ℕ). take p l ++ ds ++ r) (drop-drop t p l)
    ∙ rest
    ∙ sym (sets-eq ds l p (omega (arith, long))))
