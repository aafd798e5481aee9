-- A column filled by one table after the other: after `done` entries the values of all codes below `done` are stored, and those of the others are as they were. All codes are below
-- 2^w, so with as many entries the column is filled.
use mathlib.Core.Path.{◌≡◌, refl, sym, ap, ap₂, ◌∙◌}
use mathlib.Core.Bool.{true}
use mathlib.Core.List.{List, [], ◌++◌, map}
use Prim.Native.Nat.{ℕ, ◌+◌, ◌-◌, ◌^◌, ◌≤◌, ◌<◌, min, zero-le}
use native.Mathlib.Nat.{zero-add}
use native.Mathlib.Omega.{arith}
use lib.IntN.{ℤ, pos}
use lib.ListN.{length, get_or, take, drop, length-append, length-take, length-map, take-append-drop}
use lib.Seq.{sets, drop_at}
use lib.Pow.{pow_pos}
use Rattle.format.specs.Answers.{stored}
use Rattle.format.specs.Varint.{uvarint_values, after_uvarints}
use Rattle.format.specs.Packing.{unpacked, packed_values}
use Rattle.format.specs.Digits.{of_digits}
use Rattle.format.specs.Dictionary.{all_below, entries_of, dictionary_values}
use Rattle.format.proofs.Codecs.Counts.{length-packed_values}
use Rattle.format.proofs.Numbers.All.{Below}
use Rattle.format.proofs.Numbers.Digits.{below-digits}
use Rattle.format.proofs.Numbers.Stores.{sets-stored}
use Rattle.varint.specs.Finding.{found_at}
use Rattle.varint.specs.declared.find.Found.{Found}
use Rattle.dictionary.specs.Reading.{entries_at, picked_all, ReadBody}
use Rattle.dictionary.proofs.Codes.{below-min, length-picked, picked-tables, picked_none, picked-front, picked_all_lem}
use Rattle.dictionary.proofs.ReadEntries.{last_or, last-append, last-at, length-values, values-add, after-add, length-entries, entries-append, entries-are}

-- a list stored over another of its length
sets-again : (a b l : List ℤ) → length a ≡ length b → length a ≤ length l → sets (sets l 0 a) 0 b ≡ sets l 0 b
unfolding stored
sets-again a b l e h =
    let first : sets l 0 a ≡ a ++ drop (length a) l = sets-stored a l h in
    let room : length b ≤ length (a ++ drop (length a) l) = omega (arith, length-append a (drop (length a) l), e) in
    ap (λ (r : List ℤ). sets r 0 b) first
    ∙ sets-stored b (a ++ drop (length a) l) room
    ∙ ap (λ (r : List ℤ). b ++ r) (ap (λ (k : ℕ). drop k (a ++ drop (length a) l)) (sym e) ∙ drop_at a (drop (length a) l) (length a) refl ∙ ap (λ (k : ℕ). drop k l) e)
    ∙ sym (sets-stored b l (omega (arith, e)))

stored_is : (x l : List ℤ) → length x ≤ length l → sets l 0 x ≡ x ++ drop (length x) l
unfolding stored
stored_is x l h = sets-stored x l h

-- no table stores what was there
nothing : (codes : List ℕ) (l : List ℤ) → length codes ≤ length l → sets l 0 (picked_all 0 [] codes l) ≡ l
unfolding stored
nothing codes l h =
    let front : picked_all 0 [] codes l ≡ take (length codes) l = picked_none codes l h in
    let long : length (take (length codes) l) ≡ length codes = omega (arith, length-take (length codes) l) in
    ap (sets l 0) front
    ∙ sets-stored (take (length codes) l) l (omega (arith, long))
    ∙ ap (λ (k : ℕ). take (length codes) l ++ drop k l) long
    ∙ take-append-drop (length codes) l

module _ (s : List ℕ) (from : ℕ) where
  -- the first `done` entries
  unfoldable pub entries : ℕ → List ℤ
  entries done = entries_at 0 (pos 0) (uvarint_values s from done)

  pub length-first : (done : ℕ) → length (entries done) ≡ done
  unfolding entries
  length-first done = length-entries 0 (pos 0) (uvarint_values s from done) ∙ length-values s from done

  -- and those of the next table
  entries-more : (done held : ℕ) → entries (done + held) ≡ entries done ++ entries_at done (last_or (pos 0) (entries done)) (uvarint_values s (after_uvarints s from done) held)
  unfolding entries
  entries-more done held =
      ap (entries_at 0 (pos 0)) (values-add s from done held)
      ∙ entries-append 0 (pos 0) (uvarint_values s from done) (uvarint_values s (after_uvarints s from done) held)
      ∙ ap (λ (k : ℕ). entries_at 0 (pos 0) (uvarint_values s from done) ++ entries_at k (last_or (pos 0) (entries_at 0 (pos 0) (uvarint_values s from done))) (uvarint_values s (after_uvarints s from done) held))
      (zero-add (length (uvarint_values s from done)) ∙ length-values s from done)

  pub record Filled (n : ℕ) (codes : List ℕ) (l column : List ℤ) (at : ℕ) (last : ℤ) (done : ℕ) : Type 0 where
    pub passed : done ≤ n
    pub room : length codes ≤ length l
    pub place : at ≡ after_uvarints s from done
    pub latest : last ≡ last_or (pos 0) (entries done)
    pub column-is : column ≡ sets l 0 (picked_all 0 (entries done) codes l)

  module _ {n : ℕ} {codes : List ℕ} {l : List ℤ} where
    pub filled_none : length codes ≤ length l → Filled n codes l l from (pos 0) 0
    unfolding entries entries_at uvarint_values after_uvarints last_or stored
    filled_none h = record { passed = zero-le; room = h; place = refl; latest = refl; column-is = sym (nothing codes l h) }

    pub filled_more : {column : List ℤ} {at done held : ℕ} {last : ℤ} → Filled n codes l column at last done → done + held ≤ n → 0 < held
        → {next : ℕ} → next ≡ after_uvarints s at held → {window : List ℤ} → window ≡ entries_at done last (uvarint_values s at held)
        → {newest : ℤ} → newest ≡ get_or window (held - 1) (pos 0)
        → {out : List ℤ} → out ≡ sets column 0 (picked_all done window codes column)
        → Filled n codes l out next newest (done + held)
    filled_more {column} {at} {done} {held} {last} g h some en {window} ew et eo =
        let wide : length window ≡ held = ap length ew ∙ length-entries done last (uvarint_values s at held) ∙ length-values s at held in
        let all : entries (done + held) ≡ entries done ++ window
        = entries-more done held ∙ ap₂ (λ (b : ℤ) (p : ℕ). entries done ++ entries_at done b (uvarint_values s p held)) (sym g.latest) (sym g.place) ∙ ap (λ (r : List ℤ). entries done ++ r) (sym ew) in
        record {
          passed = h;
          room = g.room;
          place = en ∙ ap (λ (p : ℕ). after_uvarints s p held) g.place ∙ sym (after-add s from done held);
          latest = et ∙ ap (λ (k : ℕ). get_or window (k - 1) (pos 0)) (sym wide) ∙ sym (last-at (last_or (pos 0) (entries done)) window (omega (arith, wide)))
              ∙ sym (last-append (pos 0) (entries done) window) ∙ ap (last_or (pos 0)) (sym all);
          column-is = eo ∙ ap (λ (c : List ℤ). sets c 0 (picked_all done window codes c)) g.column-is ∙ over done window ∙ ap (λ (t : List ℤ). sets l 0 (picked_all 0 t codes l)) (sym all);
        }
      where
        over : (done : ℕ) (window : List ℤ)
            → sets (sets l 0 (picked_all 0 (entries done) codes l)) 0 (picked_all done window codes (sets l 0 (picked_all 0 (entries done) codes l)))
            ≡ sets l 0 (picked_all 0 (entries done ++ window) codes l)
        over done window =
            let t = entries done in
            let x = picked_all 0 t codes l in
            let long : length x ≡ length codes = length-picked 0 t codes l g.room in
            let front : sets l 0 x ≡ x ++ drop (length x) l = stored_is x l (omega (arith, long, g.room)) in
            let value : picked_all done window codes (sets l 0 x) ≡ picked_all 0 (t ++ window) codes l
            = ap (picked_all done window codes) front
            ∙ picked-front done window codes x (drop (length x) l) (sym long)
            ∙ ap (λ (k : ℕ). picked_all k window codes x) (sym (length-first done))
            ∙ picked-tables t window codes l in
            let long2 : length (picked_all 0 (t ++ window) codes l) ≡ length codes = length-picked 0 (t ++ window) codes l g.room in
            ap (sets (sets l 0 x) 0) value ∙ sets-again x (picked_all 0 (t ++ window) codes l) l (long ∙ sym long2) (omega (arith, long, g.room))

    pub filled-done : {column : List ℤ} {at done : ℕ} {last : ℤ} → Filled n codes l column at last done → n ≤ done
        → column ≡ sets l 0 (picked_all 0 (entries_at 0 (pos 0) (uvarint_values s from n)) codes l)
    unfolding entries
    filled-done {column} {at} {done} g h =
        let all : done ≡ n = omega (arith, g.passed) in
        g.column-is ∙ ap (λ (k : ℕ). sets l 0 (picked_all 0 (entries_at 0 (pos 0) (uvarint_values s from k)) codes l)) all

  -- enough entries at last: the entry of each code, among all n of them
  pub filled-values : {bound n : ℕ} (codes : List ℕ) (l : List ℤ) → length codes ≤ length l → bound ≤ n → all_below bound codes ≡ true
      → sets l 0 (picked_all 0 (entries_at 0 (pos 0) (uvarint_values s from bound)) codes l) ≡ stored (map (λ code. get_or (entries_of (uvarint_values s from n)) code (pos 0)) codes) l
  unfolding entries
  filled-values {bound} {n} codes l h some b =
      let later = entries_at bound (last_or (pos 0) (entries bound)) (uvarint_values s (after_uvarints s from bound) (n - bound)) in
      let sum : bound + (n - bound) ≡ n = omega arith in
      let whole : entries bound ++ later ≡ entries_of (uvarint_values s from n)
      = sym (entries-more bound (n - bound)) ∙ ap entries sum ∙ entries-are (uvarint_values s from n) in
      let all = picked_all_lem (entries bound) later codes l h (ap (λ (k : ℕ). all_below k codes) (length-first bound) ∙ b) in
      ap (sets l 0) (all ∙ ap (λ (t : List ℤ). map (λ code. get_or t code (pos 0)) codes) whole)
      ∙ sets-stored _ l (omega (arith, length-map codes (λ code. get_or (entries_of (uvarint_values s from n)) code (pos 0))))

-- a packed code is below 2^w
codes-below : (s : List ℕ) (at w count : ℕ) → Below (2 ^ w) (packed_values s at w count)
unfolding packed_values unpacked
codes-below s at w count = below-digits (2 ^ w) count (of_digits 256 (drop at s)) (pow_pos w)

-- ---- a body that was passed

module _ {s : List ℕ} {start count : ℕ} (b : ReadBody s start count) {total : Found} (et : total ≡ found_at s start)
    {place : ℕ} (ep : place ≡ after_uvarints s total.next total.value)
  where
    module _ {used : ℕ} (eu : used ≡ min total.value (2 ^ get_or s place 0)) where
      -- with the entries in their reach each code has its value
      pub body-values : (l : List ℤ) {out : List ℤ} → count ≤ length l
          → out ≡ sets l 0 (picked_all 0 (entries_at 0 (pos 0) (uvarint_values s total.next used)) (packed_values s (place + 1) (get_or s place 0) count) l)
          → out ≡ stored (dictionary_values s start count) l
      unfolding dictionary_values
      body-values l room e =
          let codes = packed_values s (place + 1) (get_or s place 0) count in
          let below : all_below total.value codes ≡ true = rw (ep, et) b.below in
          let narrow = codes-below s (place + 1) (get_or s place 0) count in
          let named : all_below used codes ≡ true = rw eu (below-min total.value (2 ^ get_or s place 0) below narrow) in
          let many : length codes ≤ length l = rw (length-packed_values s (place + 1) (get_or s place 0) count) room in
          let some : used ≤ total.value = omega arith in
          e ∙ filled-values s total.next codes l many some named ∙ rw (ep, et) refl
