-- Finding a varint: what is found is what reading finds. Up to eight bytes the walk goes byte by byte; then the ninth byte says whether the last is the ninth or
-- the tenth, and that byte says whether there is an end at all.
use Rattle.std.proofs.Common.{Option, Some, None, ◌≡◌, ℕ, suc, ◌+◌, ◌-◌, ◌*◌, ◌%◌, ◌<◌, ◌≤◌, Bool, true, false, ltb, leb, List, length, get_or, drop, sym, refl, ap₂, ◌∙◌, arith, ltb-false, ltb-true, leb-false, leb-true, le-leb}
use borrow.Author.Tests.{lt-leb}
use mir.Val.{bool_byte}
use Rattle.std.specs.Option.{UnwrapsOrElse, unwrap_or}
use Rattle.format.specs.Outcome.{Outcome, ok, refused}
use Rattle.format.specs.Varint.{Uvarint, uvarint_end, read_uvarint, uvarint_at}
use Rattle.varint.specs.Reading.{Reading}
use Rattle.varint.specs.declared.find.Found.{Found}
use Rattle.varint.specs.Finding.{Walked, found_of, found_in, found_at, end_of, end_in}
use Rattle.varint.proofs.Reading.{was_read, summed, again, answer_none, answer_one, answer_last, answer_cut, answer_long, end_none, end-eleventh, end-last, end_more}

-- whether a byte is the last
by_last {ℓ} : {C : Type ℓ} (b : ℕ) → (b < 128 → C) → (128 ≤ b → C) → C
by_last {C} b last more = go (ltb b 128) refl
  where
    go : (t : Bool) → ltb b 128 ≡ t → C
    go true h = last (ltb-true b 128 h)
    go false h = more (ltb-false b 128 h)

module _ (s : List ℕ) (at : ℕ) where
  pub found_read : {value next : ℕ} {unpadded : Bool} → read_uvarint s at ≡ was_read value next unpadded → Some (record { value = value; next = next }) ≡ found_in s at
  found_read e = rw e

  pub found_refused : {number offset : ℕ} → read_uvarint s at ≡ refused number offset → None ≡ found_in s at
  found_refused e = rw e

  -- no byte, and one byte
  pub found_none : length s ≤ at → None ≡ found_in s at
  found_none h = found_refused (sym (answer_none s at h))

  pub found_one : at < length s → get_or s at 0 < 128 → Some (record { value = get_or s at 0; next = at + 1 }) ≡ found_in s at
  found_one h b = found_read (sym (answer_one s at h b))

  -- ---- what callers learn from it

  -- it is found where it is read
  pub found_some : {v : Uvarint} → read_uvarint s at ≡ ok v → found_in s at ≡ Some (record { value = v.value; next = v.next })
  found_some e = rw e

  pub end_some : {v : Uvarint} → read_uvarint s at ≡ ok v → end_in s at ≡ Some v.next
  end_some e = rw e

  -- of one that was found, the value and the place
  pub found_is : {found : Found} → Some found ≡ found_in s at → found ≡ found_at s at
  unfolding uvarint_at
  found_is {found} e = go (read_uvarint s at) refl e
    where
      go : (o : Outcome Uvarint) → read_uvarint s at ≡ o → Some found ≡ found_of o → found ≡ found_at s at
      go (refused number offset) p h = let z : ◌≡◌ {A = ℕ} 0 1 = cc in absurd (omega arith)
      go (ok v) p h = rw p (cc)

  -- 0 and 0 where it is refused, as a caller has them that goes on
  pub found_or_default : {found : Option Found} {there : Found} → found ≡ found_in s at
      → UnwrapsOrElse found (λ f. (f.value ≡ 0) × (f.next ≡ 0)) there → there ≡ found_at s at
  unfolding uvarint_at
  found_or_default {found} {there} e u = go (read_uvarint s at) refl e
    where
      go : (o : Outcome Uvarint) → read_uvarint s at ≡ o → found ≡ found_of o → there ≡ found_at s at
      go (refused number offset) p h = let z = rw h at u in rw p (ap₂ (λ (v n : ℕ). record { value = v; next = n }) z.0 z.1)
      go (ok v) p h = rw p (rw h at u)

  -- and the place alone, 0 where it is refused
  pub end_or_zero : {end : Option ℕ} {next : ℕ} → end ≡ end_in s at → next ≡ unwrap_or end 0 → next ≡ (uvarint_at s at).next
  unfolding uvarint_at
  end_or_zero {end} {next} e u = go (read_uvarint s at) refl e
    where
      go : (o : Outcome Uvarint) → read_uvarint s at ≡ o → end ≡ end_of o → next ≡ (uvarint_at s at).next
      go (refused number offset) p h = rw p (rw h at u)
      go (ok v) p h = rw p (rw h at u)

  -- ---- the place after it, by the walk to the end

  next_ok : {next : ℕ} → uvarint_end at 10 (drop at s) at ≡ ok next → Some next ≡ end_in s at
  unfolding read_uvarint
  next_ok e = rw e

  next_refused : {number offset : ℕ} → uvarint_end at 10 (drop at s) at ≡ refused number offset → None ≡ end_in s at
  unfolding read_uvarint
  next_refused e = rw e

  pub walked_none : at ≤ length s → Walked s at 0
  walked_none h =
      let z : at + 0 ≡ at = omega arith in
      record { left = 10; places = omega arith; inside = omega arith; walk = rw z }

  module _ {k : ℕ} (w : Walked s at k) (h : at + k < length s) where
    left-more : k < 10 → w.left ≡ suc (w.left - 1)
    left-more l = omega (arith, w.places)

    pub walked_more : k < 10 → 128 ≤ get_or s (at + k) 0 → Walked s at (k + 1)
    walked_more l b =
        let e : at + (k + 1) ≡ at + k + 1 = omega arith in
        record {
          left = w.left - 1;
          places = omega (arith, w.places);
          inside = omega arith;
          walk = rw e ((rw (left-more l) at w.walk) ∙ end_more s at (at + k) (w.left - 1) h b);
        }

    pub walked_last : k < 10 → get_or s (at + k) 0 < 128 → Some (at + k + 1) ≡ end_in s at
    walked_last l b = next_ok ((rw (left-more l) at w.walk) ∙ end-last s at (at + k) (w.left - 1) h b)

  -- ten bytes, and none is the last
  walked_over : Walked s at 10 → None ≡ end_in s at
  walked_over w = go (leb (length s) (at + 10)) refl
    where
      none : w.left ≡ 0
      none = omega (arith, w.places)

      go : (t : Bool) → leb (length s) (at + 10) ≡ t → None ≡ end_in s at
      go true h = next_refused (w.walk ∙ end_none s at (at + 10) w.left (leb-true (length s) (at + 10) h))
      go false h = next_refused ((rw none at w.walk) ∙ end-eleventh s at (at + 10) (leb-false (length s) (at + 10) h))

  over : {value shift : ℕ} → Reading s at value (at + 8 + 1 + 1) shift → None ≡ found_in s at
  over r = go (leb (length s) (at + 8 + 1 + 1)) refl
    where
      go : (t : Bool) → leb (length s) (at + 8 + 1 + 1) ≡ t → None ≡ found_in s at
      go true h = found_refused (sym (answer_cut r (leb-true (length s) (at + 8 + 1 + 1) h)))
      go false h = found_refused (sym (answer_long r (omega arith) (leb-false (length s) (at + 8 + 1 + 1) h)))

  -- ---- more than eight bytes

  module _ (room : at + 10 ≤ length s) {more : ℕ} (e : more ≡ bool_byte (leb 128 (get_or s (at + 8) 0))) where
    -- the ninth is the last
    none : get_or s (at + 8) 0 < 128 → more ≡ 0
    none l = rw (lt-leb _ _ l) at e

    -- another follows it
    one : 128 ≤ get_or s (at + 8) 0 → more ≡ 1
    one l = rw (le-leb _ _ l) at e

    pub end_long : Walked s at 8 → get_or s (at + 8 + more) 0 < 128 → Some (at + 9 + more) ≡ end_in s at
    end_long w b =
        by_last (get_or s (at + 8) 0)
        (λ l. let n : at + 9 + more ≡ at + 8 + 1 = omega (arith, none l) in rw n (walked_last w (omega arith) (omega arith) l))
        λ l.
        let o : at + 8 + more ≡ at + (8 + 1) = omega (arith, one l) in
        let n : at + 9 + more ≡ at + (8 + 1) + 1 = omega arith in
        rw n (walked_last (walked_more w (omega arith) (omega arith) l) (omega arith) (omega arith) (rw o at b))

    pub end_over : Walked s at 8 → 128 ≤ get_or s (at + 8 + more) 0 → None ≡ end_in s at
    end_over w b =
        by_last (get_or s (at + 8) 0)
        (λ l. let z : at + 8 + more ≡ at + 8 = omega (arith, none l) in absurd (omega (arith, rw z at b)))
        λ l.
        let o : at + 8 + more ≡ at + (8 + 1) = omega (arith, one l) in
        walked_over (walked_more (walked_more w (omega arith) (omega arith) l) (omega arith) (omega arith) (rw o at b))

    module _ {low : ℕ} (r : Reading s at low (at + 8) 56) where
      -- with the ninth byte
      abbrev pub nine : ℕ
      nine = summed low (get_or s (at + 8) 0 % 128) 56

      pub found_long : get_or s (at + 8 + more) 0 < 128
          → Some (record { value = summed nine (get_or s (at + 8 + more) 0 % 128 * more) 63; next = at + 9 + more }) ≡ found_in s at
      found_long b =
          by_last (get_or s (at + 8) 0)
          (λ l.
          let v : summed nine (get_or s (at + 8 + 0) 0 % 128 * 0) 63 ≡ nine = omega arith in
          let n : at + 9 + 0 ≡ at + 8 + 1 = omega arith in
          rw (none l, v, n) (found_read (sym (answer_last r (omega arith) (omega arith) l))))
          λ l.
          let m : get_or s (at + 8 + 1) 0 % 128 * 1 ≡ get_or s (at + 8 + 1) 0 % 128 = omega arith in
          let n : at + 9 + 1 ≡ at + 8 + 1 + 1 = omega arith in
          let ten = again r (omega arith) (omega arith) l in
          rw (one l, m, n) (found_read (sym (answer_last ten (omega arith) (omega arith) (rw (one l) at b))))

  pub found_over : {low more : ℕ} → Reading s at low (at + 8) 56 → more ≡ bool_byte (leb 128 (get_or s (at + 8) 0))
      → 128 ≤ get_or s (at + 8 + more) 0 → at + 10 ≤ length s → None ≡ found_in s at
  found_over {low} {more} r e b room =
      by_last (get_or s (at + 8) 0)
      (λ l. let z : at + 8 + more ≡ at + 8 = omega (arith, none room e l) in absurd (omega (arith, rw z at b)))
      λ l. over (again (again r (omega arith) (omega arith) l) (omega arith) (omega arith) (rw (one room e l) at b))
