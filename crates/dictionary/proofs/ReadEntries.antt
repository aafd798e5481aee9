-- Entries, read from their varints: from a place on, and cut in two.
use mathlib.Core.Path.{◌≡◌, refl, sym, ap, ◌∙◌}
use mathlib.Core.List.{List, [], ◌∷◌, ◌++◌, append-nil}
use Prim.Native.Nat.{ℕ, zero, suc, ◌+◌, ◌-◌, ◌<◌, ◌≤◌}
use native.Mathlib.Nat.{sub-zero, suc-sub-suc, add-zero, zero-add, suc-add, add-suc, zero-lt-suc}
use native.Mathlib.Omega.{arith}
use lib.IntN.{ℤ, pos}
use lib.ListN.{length, get_or, set, drop_of_length-le}
use borrow.Author.Tests.{ne_eqb}
use Rattle.format.specs.Answers.{stored}
use Rattle.format.specs.Keys.{wrapping_add, unzigzag}
use Rattle.format.specs.Varint.{uvarint_at, uvarint_values, after_uvarints}
use Rattle.format.specs.Dictionary.{entries_from, entries_of}
use Rattle.format.proofs.Numbers.Stores.{Storing, storing-one, storing-done, sets-stored}
use Rattle.varint.specs.declared.find.Found.{Found}
use Rattle.varint.specs.Finding.{found_in, found_at}
use Rattle.varint.proofs.Finding.{found_is}
use Rattle.std.specs.Prelude.{Option, Some, IsSome}
use Rattle.dictionary.specs.Reading.{AllRead, entry_at, entries_at}

-- ---- places

module _ (s : List ℕ) (at : ℕ) {n i : ℕ} where
  pub after_step : i < n → after_uvarints s (uvarint_at s at).next (n - (i + 1)) ≡ after_uvarints s at (n - i)
  unfolding after_uvarints
  after_step h = let k : n - i ≡ suc (n - (i + 1)) = omega arith in rw k

  pub after_end : n ≤ i → after_uvarints s at (n - i) ≡ at
  unfolding after_uvarints
  after_end h = let k : n - i ≡ 0 = omega arith in rw k

-- ---- varints that were read

module _ (s : List ℕ) (at : ℕ) where
  -- the first is found,
  pub read_some : {n : ℕ} → 0 < n → AllRead s at n → {found : Option Found} → found ≡ found_in s at → IsSome found
  unfolding AllRead
  read_some {n = zero} h r e = absurd (omega arith)
  read_some {n = suc n} h r e = rw e r.0

  -- and is what was read,
  pub read-value : {found : Option Found} {there : Found} → found ≡ found_in s at → found ≡ Some there → there ≡ found_at s at
  read-value e f = found_is s at (sym f ∙ e)

  -- and those after it are read too
  pub read_next : {n i : ℕ} → i < n → AllRead s at (n - i) → AllRead s (uvarint_at s at).next (n - (i + 1))
  unfolding AllRead
  read_next {n} {i} h r = let k : n - i ≡ suc (n - (i + 1)) = omega arith in (rw k at r).1

-- so are the first of them, and those after these
pub read-front : (s : List ℕ) (at a n : ℕ) → a ≤ n → AllRead s at n → AllRead s at a
unfolding AllRead
read-front s at zero n h r = tt
read-front s at (suc a) zero h r = absurd (omega arith)
read-front s at (suc a) (suc n) h r = (r.0, read-front s (uvarint_at s at).next a n (omega arith) r.1)

pub read-rest : (s : List ℕ) (at a n : ℕ) → a ≤ n → AllRead s at n → AllRead s (after_uvarints s at a) (n - a)
unfolding AllRead after_uvarints
read-rest s at zero n h r = rw (sub-zero n) r
read-rest s at (suc a) zero h r = absurd (omega arith)
read-rest s at (suc a) (suc n) h r = rw (suc-sub-suc n a) (read-rest s (uvarint_at s at).next a n (omega arith) r.1)

-- ---- entries

-- the last of a list, or what is before it
unfoldable pub last_or : ℤ → List ℤ → ℤ
last_or before [] = before
last_or before (x ∷ xs) = last_or x xs

pub last-append : (before : ℤ) (xs ys : List ℤ) → last_or before (xs ++ ys) ≡ last_or (last_or before xs) ys
unfolding last_or
last-append before [] ys = refl
last-append before (x ∷ xs) ys = last-append x xs ys

pub last-at : (before : ℤ) (xs : List ℤ) → 0 < length xs → last_or before xs ≡ get_or xs (length xs - 1) (pos 0)
unfolding last_or
last-at before [] h = absurd (omega arith)
last-at before (x ∷ []) h = refl
last-at before (x ∷ y ∷ ys) h =
    let k : suc (suc (length ys)) - 1 ≡ suc (suc (length ys) - 1) = omega arith in
    last-at x (y ∷ ys) (zero-lt-suc (length ys)) ∙ ap (λ (i : ℕ). get_or (x ∷ y ∷ ys) i (pos 0)) (sym k)

module _ (s : List ℕ) where
  pub length-values : (at n : ℕ) → length (uvarint_values s at n) ≡ n
  unfolding uvarint_values
  length-values at zero = refl
  length-values at (suc n) = ap suc (length-values (uvarint_at s at).next n)

  -- varints in a row, cut in two
  pub values-add : (at a b : ℕ) → uvarint_values s at (a + b) ≡ uvarint_values s at a ++ uvarint_values s (after_uvarints s at a) b
  unfolding uvarint_values after_uvarints
  values-add at zero b = ap (uvarint_values s at) (zero-add b)
  values-add at (suc a) b = rw (suc-add a b) (ap (λ (r : List ℕ). (uvarint_at s at).value ∷ r) (values-add (uvarint_at s at).next a b))

  pub after-add : (at a b : ℕ) → after_uvarints s at (a + b) ≡ after_uvarints s (after_uvarints s at a) b
  unfolding after_uvarints
  after-add at zero b = ap (after_uvarints s at) (zero-add b)
  after-add at (suc a) b = rw (suc-add a b) (after-add (uvarint_at s at).next a b)

pub length-entries : (i : ℕ) (last : ℤ) (vs : List ℕ) → length (entries_at i last vs) ≡ length vs
unfolding entries_at
length-entries i last [] = refl
length-entries i last (v ∷ vs) = ap suc (length-entries (suc i) (entry_at i last v) vs)

pub entries-append : (i : ℕ) (last : ℤ) (xs ys : List ℕ)
    → entries_at i last (xs ++ ys) ≡ entries_at i last xs ++ entries_at (i + length xs) (last_or last (entries_at i last xs)) ys
unfolding entries_at last_or
entries-append i last [] ys = ap (λ (k : ℕ). entries_at k last ys) (sym (add-zero i))
entries-append i last (x ∷ xs) ys =
    ap (λ (r : List ℤ). entry_at i last x ∷ r)
    (entries-append (suc i) (entry_at i last x) xs ys
    ∙ ap (λ (k : ℕ). entries_at (suc i) (entry_at i last x) xs ++ entries_at k (last_or (entry_at i last x) (entries_at (suc i) (entry_at i last x) xs)) ys)
    (suc-add i (length xs) ∙ sym (add-suc i (length xs))))

entries-after : (i : ℕ) (last : ℤ) (gs : List ℕ) → entries_at (suc i) last gs ≡ entries_from last gs
unfolding entries_at entry_at entries_from
entries-after i last [] = refl
entries-after i last (g ∷ gs) =
    rw (ne_eqb (suc i) 0 (λ e. omega arith)) (ap (λ (r : List ℤ). wrapping_add last (pos g) ∷ r) (entries-after (suc i) (wrapping_add last (pos g)) gs))

-- from the first on they are the definition's
pub entries-are : (vs : List ℕ) → entries_at 0 (pos 0) vs ≡ entries_of vs
unfolding entries_at entry_at entries_of
entries-are [] = refl
entries-are (v ∷ vs) = ap (λ (r : List ℤ). unzigzag v ∷ r) (entries-after 0 (unzigzag v) vs)

-- one entry more is stored
module _ (s : List ℕ) (at n i done : ℕ) (last : ℤ) {whole l table : List ℤ} where
  pub load_step : i < n → Storing whole l 0 (entries_at (done + i) last (uvarint_values s at (n - i))) table i → {e : ℤ} → e ≡ entry_at (done + i) last (uvarint_at s at).value
      → Storing whole l 0 (entries_at (done + (i + 1)) e (uvarint_values s (uvarint_at s at).next (n - (i + 1)))) (set table i e) (i + 1)
  unfolding uvarint_values entries_at
  load_step h st {e} same =
      let k : n - i ≡ suc (n - (i + 1)) = omega arith in
      let d : done + (i + 1) ≡ suc (done + i) = omega arith in
      rw d (storing-one st e _ (rw (k, same)))

  -- all are stored
  pub load-done : n ≤ i → n ≡ length l → length whole ≡ n → Storing whole l 0 (entries_at (done + i) last (uvarint_values s at (n - i))) table i → table ≡ whole
  unfolding uvarint_values entries_at stored
  load-done h long same st =
      let k : n - i ≡ 0 = omega arith in
      storing-done st (rw k refl) ∙ sets-stored whole l (omega arith) ∙ ap (λ (r : List ℤ). whole ++ r) (drop_of_length-le l {i = length whole} (omega arith)) ∙ append-nil whole
