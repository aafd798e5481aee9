-- A scan says that varints can be read: where n bytes end a varint and no ten in a row are continued, n varints stand in a row. The first byte that ends one is
-- among the first ten; after it one byte less that ends one is left, and still no ten in a row are continued.
use mathlib.Core.Path.{◌≡◌, refl, sym, ap, ◌∙◌}
use mathlib.Core.Bool.{Bool, false}
use mathlib.Core.List.{List, [], ◌∷◌, ◌++◌}
use Prim.Native.Nat.{ℕ, zero, suc, ◌+◌, ◌≤◌, ◌<◌, min}
use native.Mathlib.Nat.{add-zero, add_assoc}
use native.Mathlib.Numerals.{add-one}
use native.Mathlib.Decide.{dec_lt}
use native.Mathlib.Omega.{arith}
use lib.ListN.{length, get_or, take, drop, take-append-drop, drop_of_length-le, length-drop}
use lib.Seq.{drop-cons, drop-drop, drop-append-le, get_or-drop}
use borrow.Author.Tests.{lt-ltb, le-ltb}
use Rattle.format.specs.Outcome.{ok}
use Rattle.format.specs.Parts.{settled}
use Rattle.format.specs.Read.{strict_checks}
use Rattle.format.specs.declared.Extent.{Extent}
use Rattle.format.specs.Varint.{uvarint_end, ends_unpadded, read_uvarint, first_padded, validate_uvarints}
use Rattle.varints.specs.Readable.{Passes}
use Rattle.varints.specs.Scans.{last, lasts, least5, least10, NoTen}
use Rattle.std.specs.Prelude.{Option}

-- ---- the loop that counts

module _ (bytes : List ℕ) (i : ℕ) where
  pub lasts_end : length bytes ≤ i → lasts (drop i bytes) ≡ 0
  unfolding lasts
  lasts_end h = rw (drop_of_length-le bytes h)

  pub lasts_more : i < length bytes → lasts (drop i bytes) ≡ last (get_or bytes i 0) + lasts (drop (i + 1) bytes)
  unfolding lasts
  lasts_more h = rw (add-one i, drop-cons bytes i 0)

-- ---- the loop over ten bytes in a row

-- the least of a window is that of the ten bytes from k on
pub least_window : (w s : List ℕ) (k : ℕ) → ((j d : ℕ) → j < 10 → get_or w j d ≡ get_or s (k + j) d) → least10 w 0 ≡ least10 s k
unfolding least10 least5
least_window w s k e =
    let z = rw (add-zero k) at (e 0 0 (omega arith)) in
    rw (z, e 1 0 (omega arith), e 2 0 (omega arith), e 3 0 (omega arith), e 4 0 (omega arith), e 5 0 (omega arith), e 6 0 (omega arith), e 7 0 (omega arith), e 8 0 (omega arith), e 9 0 (omega arith), add_assoc k 5 1, add_assoc k 5 2, add_assoc k 5 3, add_assoc k 5 4) refl

-- ---- a byte that ends a varint

-- one of the first n bytes
abbrev Stop : ℕ → List ℕ → Type 0
Stop n l = (j : ℕ) × (j < n) × (get_or l j 0 < 128)

-- one of any ten in a row
abbrev Stops : List ℕ → Type 0
Stops l = (i : ℕ) → i + 10 ≤ length l → Stop 10 (drop i l)

-- the lesser of two is one of them
of_two : {C : Type 0} (a b : ℕ) → min a b < 128 → (a < 128 → C) → (b < 128 → C) → C
of_two {C} a b h f g = go (dec_lt a 128)
  where
    go : Dec (a < 128) → C
    go (yes k) = f k
    go (no k) = g (omega arith)

of-five : (l : List ℕ) (i : ℕ) → least5 l i < 128 → (j : ℕ) × (j < 5) × (get_or l (i + j) 0 < 128)
unfolding least5
of-five l i h =
    of_two _ _ h (λ b. (0, omega arith, rw (add-zero i) b)) λ h₁.
    of_two _ _ h₁ (λ b. (1, omega arith, b)) λ h₂.
    of_two _ _ h₂ (λ b. (2, omega arith, b)) λ h₃.
    of_two _ _ h₃ (λ b. (3, omega arith, b)) λ b. (4, omega arith, b)

stops : (l : List ℕ) → NoTen l → Stops l
unfolding least10
stops l h i long =
    of_two (least5 l i) (least5 l (i + 5)) (h i long) (λ k. let f = of-five l i k in (f.0, omega (arith, f.1), rw (get_or-drop i l f.0 0) f.2))
    λ k.
    let f = of-five l (i + 5) k in
    (5 + f.0, omega (arith, f.1), rw (get_or-drop i l (5 + f.0) 0, ← add_assoc i 5 f.0) f.2)

stops-drop : (n : ℕ) (l : List ℕ) → Stops l → Stops (drop n l)
stops-drop n l h i long = rw (drop-drop i n l) (h (n + i) (omega (arith, long, length-drop n l)))

-- ---- the first varint

-- a walk along l, and what comes after it, ends with the first byte that ends a varint; d bytes stand before that
record Ended (start left : ℕ) (l t : List ℕ) (at : ℕ) : Type 0 where
  d : ℕ
  inside : d < length l
  end : uvarint_end start left (l ++ t) at ≡ ok (at + suc d)
  others : suc (lasts (drop (suc d) l)) ≡ lasts l

ended : (start left : ℕ) (l t : List ℕ) (at : ℕ) → 1 ≤ lasts l → (left ≤ length l → Stop left l) → Ended start left l t at
unfolding lasts uvarint_end
ended start left [] t at some stop = absurd (omega arith)
ended start zero (b ∷ l) t at some stop = absurd (omega (arith, (stop (omega arith)).1))
ended start (suc left) (b ∷ l) t at some stop = go (dec_lt b 128) (ended start left l t (at + 1))
  where
    later : 128 ≤ b → suc left ≤ suc (length l) → Stop (suc left) (b ∷ l) → Stop left l
    later k long (zero, lt, small) = absurd (omega arith)
    later k long (suc j, lt, small) = (j, omega arith, small)

    go : Dec (b < 128) → (1 ≤ lasts l → (left ≤ length l → Stop left l) → Ended start left l t (at + 1)) → Ended start (suc left) (b ∷ l) t at
    go (yes k) r = record { d = 0; inside = omega arith; end = rw (lt-ltb b 128 k); others = omega arith }
    go (no k) r =
        let more : 128 ≤ b = omega arith in
        let f = r (omega arith) (λ long. later more (omega arith) (stop (omega arith))) in
        let e : at + 1 + suc f.d ≡ at + suc (suc f.d) = omega arith in
        record { d = suc f.d; inside = omega (arith, f.inside); end = rw (le-ltb b 128 more) (f.end ∙ ap (λ (n : ℕ). ok n) e); others = omega (arith, f.others) }

-- ---- all of them

rows-read : (s : List ℕ) (n at : ℕ) (l t : List ℕ) (padded : Option ℕ) → drop at s ≡ l ++ t → Stops l → n ≤ lasts l → (x : Extent) × (validate_uvarints s at n padded ≡ ok x)
unfolding validate_uvarints read_uvarint
rows-read s zero at l t padded e h many = (record { end = at; padded = padded }, refl)
rows-read s (suc n) at l t padded e h many =
    let f = ended at 10 l t at (omega arith) (h 0) in
    let next = at + suc f.d in
    let p : uvarint_end at 10 (drop at s) at ≡ ok next = ap (λ (r : List ℕ). uvarint_end at 10 r at) e ∙ f.end in
    let rest : drop next s ≡ drop (suc f.d) l ++ t
    = sym (drop-drop (suc f.d) at s) ∙ ap (drop (suc f.d)) e ∙ drop-append-le (suc f.d) l t (omega (arith, f.inside)) in
    let r = rows-read s n next (drop (suc f.d) l) t (first_padded padded at (ends_unpadded s at next)) rest (stops-drop (suc f.d) l h) (omega (arith, f.others)) in
    (r.0, rw p r.1)

-- of the k bytes from `start` on
pub scanned : (s : List ℕ) (start k n : ℕ) → (n ≤ lasts (take k (drop start s))) × NoTen (take k (drop start s)) → Passes s start n
scanned s start k n h padded =
    rows-read s n start (take k (drop start s)) (drop k (drop start s)) padded (sym (take-append-drop k (drop start s))) (stops (take k (drop start s)) h.1) h.0

-- ---- what is not looked at

pub settled-passed : {strict : Bool} (s : List ℕ) (start count : ℕ) → strict ≡ false → Passes s start count → (x : Extent) (padded : Option ℕ) (room : ℕ)
    → settled strict s count room (ok x) ≡ settled strict s count room (validate_uvarints s start count padded)
unfolding settled strict_checks
settled-passed s start count loose passes x padded room = rw (loose, (passes padded).1)
