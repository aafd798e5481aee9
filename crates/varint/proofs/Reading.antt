-- Reading a varint byte by byte, as `read_uvarint` and the loop of `read_long` do: the walk to the end goes on from the next place, and the value so far is
-- that of the bytes passed. `Reading`, of specs/, is the loop's invariant; the other laws give it at the start, keep it for a turn, and give the answer at each exit.
use Rattle.std.proofs.Common.{◌≡◌, ℕ, suc, ◌+◌, ◌-◌, ◌*◌, ◌%◌, ◌^◌, ◌<◌, ◌≤◌, Bool, true, not, eqb, List, [], ◌∷◌, ◌++◌, map, length, get_or, take, drop, sym, refl, ap, ◌∙◌, le_refl, mul_comm, add-one, arith, drop_of_length-le, length-take-le, get_or-take, get_or-drop, drop-cons, take-suc, le-ltb, lt-ltb, eq-eqb, ne_eqb}
use mathlib.Core.List.{map-append}
use lib.ListN.{length-map}
use lib.Seq.{slice, slice_empty, length-slice, drop-append-le}
use Rattle.format.specs.Outcome.{Outcome, refused, ok, ◌>>=◌}
use Rattle.format.specs.Digits.{of_digits}
use Rattle.format.specs.Varint.{Uvarint, uvarint_end, uvarint_value, ends_unpadded, read_uvarint}
use Rattle.format.proofs.Numbers.Digits.{of_digits-append}
use Rattle.format.proofs.Numbers.Widths.{pow-128}
use Rattle.varint.specs.Reading.{Reading}

-- ---- the walk to the end, from a place on: no byte, one too many, the last, or one more

module _ (s : List ℕ) (start at : ℕ) where
  pub end_none : (left : ℕ) → length s ≤ at → uvarint_end start left (drop at s) at ≡ refused 6 start
  unfolding uvarint_end
  end_none left h = rw (drop_of_length-le s h)

  pub end-eleventh : at < length s → uvarint_end start 0 (drop at s) at ≡ refused 7 start
  unfolding uvarint_end
  end-eleventh h = rw (drop-cons s at 0)

  pub end-last : (left : ℕ) → at < length s → get_or s at 0 < 128 → uvarint_end start (suc left) (drop at s) at ≡ ok (at + 1)
  unfolding uvarint_end
  end-last left h b = rw (drop-cons s at 0, lt-ltb (get_or s at 0) 128)

  pub end_more : (left : ℕ) → at < length s → 128 ≤ get_or s at 0 → uvarint_end start (suc left) (drop at s) at ≡ uvarint_end start left (drop (at + 1) s) (at + 1)
  unfolding uvarint_end
  end_more left h b = rw (drop-cons s at 0, le-ltb (get_or s at 0) 128, add-one)

-- ---- the value, with one more group

slice_snoc : (from to : ℕ) (s : List ℕ) → from ≤ to → to < length s → slice from (suc to) s ≡ slice from to s ++ (get_or s to 0 ∷ [])
slice_snoc from to s h k =
    let l : from ≤ length (take to s) = omega (arith, length-take-le to s (omega arith)) in
    ap (drop from) (take-suc s to 0 k) ∙ drop-append-le from (take to s) (get_or s to 0 ∷ []) l

-- a value, and a group that counts 2 ^ shift, as the machine adds them
abbrev pub summed : ℕ → ℕ → ℕ → ℕ
summed value group shift = (value + (group * 2 ^ shift) % 2 ^ 64) % 2 ^ 64

value-more : (s : List ℕ) (at pos : ℕ) → at ≤ pos → pos < length s
    → uvarint_value s at (pos + 1) ≡ summed (uvarint_value s at pos) (get_or s pos 0 % 128) ((pos - at) * 7)
unfolding uvarint_value of_digits
value-more s at pos h k =
    let l : length (map (λ b. b % 128) (slice at pos s)) ≡ pos - at = simp length-map (length-slice at pos s (omega arith)) in
    let w : ℕ = 2 ^ ((pos - at) * 7) in
    let g : ℕ = get_or s pos 0 % 128 in
    let e : w * (g + 128 * 0) ≡ g * w = ap (λ (x : ℕ). w * x) (omega arith) ∙ mul_comm w g in
    rw (add-one pos, slice_snoc at pos s h k, map-append, of_digits-append, l, pow-128, e) (omega arith)

value_none : (s : List ℕ) (at : ℕ) → uvarint_value s at at ≡ 0
unfolding uvarint_value of_digits
value_none s at = rw (slice_empty at s)

value-first : (s : List ℕ) (at : ℕ) → at < length s → uvarint_value s at (at + 1) ≡ get_or s at 0 % 128
value-first s at h =
    let z : (at - at) * 7 ≡ 0 = omega arith in
    let m = rw (value_none s at, z) at (value-more s at at (le_refl at) h) in
    omega arith

-- ---- the answer, where the walk ends

-- a varint that was read
abbrev pub was_read : ℕ → ℕ → Bool → Outcome Uvarint
was_read value next unpadded = ok (record { value = value; next = next; unpadded = unpadded })

-- what reading finds in s from `at` on, by what the walk to the end finds
abbrev found : List ℕ → ℕ → Outcome ℕ → Outcome Uvarint
found s at end = end >>= λ next. was_read (uvarint_value s at next) next (ends_unpadded s at next)

answer : (s : List ℕ) (at : ℕ) {end : Outcome ℕ} → uvarint_end at 10 (drop at s) at ≡ end → found s at end ≡ read_uvarint s at
unfolding read_uvarint
answer s at e = sym (ap (found s at) e)

-- no byte
pub answer_none : (s : List ℕ) (at : ℕ) → length s ≤ at → refused 6 at ≡ read_uvarint s at
answer_none s at h = answer s at (end_none s at at 10 h)

-- one byte
pub answer_one : (s : List ℕ) (at : ℕ) → at < length s → get_or s at 0 < 128 → was_read (get_or s at 0) (at + 1) true ≡ read_uvarint s at
unfolding ends_unpadded
answer_one s at h b =
    let v : get_or s at 0 ≡ uvarint_value s at (at + 1) = omega (arith, value-first s at h) in
    rw v (rw (eq-eqb (at + 1) (at + 1) refl) at (answer s at (end-last s at at 9 h b)))

-- the last byte is at pos, and not the first
pub answer_more : (s : List ℕ) (at pos : ℕ) → at < pos → uvarint_end at 10 (drop at s) at ≡ ok (pos + 1)
    → was_read (uvarint_value s at (pos + 1)) (pos + 1) (not (eqb (get_or s pos 0) 0)) ≡ read_uvarint s at
unfolding ends_unpadded
answer_more s at pos h e =
    let n : pos + 1 ≡ at + 1 → ⊥ = λ p. omega arith in
    let k : pos + 1 - 1 ≡ pos = omega arith in
    rw (ne_eqb (pos + 1) (at + 1) n, k) at (answer s at e)

-- ---- the loop, after one byte or more

-- a byte of a part of the bytes
pub byte_of : (s : List ℕ) (from long k : ℕ) → k < long → get_or (take long (drop from s)) k 0 ≡ get_or s (from + k) 0
byte_of s from long k h = get_or-take long (drop from s) k 0 h ∙ get_or-drop from s k 0

pub begin : (s : List ℕ) (at : ℕ) → at < length s → 128 ≤ get_or s at 0 → Reading s at (get_or s at 0 % 128) (at + 1) 7
begin s at h b =
    record {
      left = 9;
      places = omega arith;
      begun = omega arith;
      inside = omega arith;
      weight = omega arith;
      sum = sym (value-first s at h);
      walk = end_more s at at 9 h b;
    }

module _ {s : List ℕ} {at value pos shift : ℕ} (r : Reading s at value pos shift) where
  summed-is : pos < length s → summed value (get_or s pos 0 % 128) shift ≡ uvarint_value s at (pos + 1)
  summed-is h = rw (r.sum, r.weight) (sym (value-more s at pos (omega (arith, r.begun)) h))

  -- with the next byte one fewer is left
  walk-next : pos < at + 10 → uvarint_end at 10 (drop at s) at ≡ uvarint_end at (suc (r.left - 1)) (drop pos s) pos
  walk-next l = let e : r.left ≡ suc (r.left - 1) = omega (arith, r.places) in rw e at r.walk

  -- it is not the last, and the loop goes on
  pub again : pos < at + 10 → pos < length s → 128 ≤ get_or s pos 0 → Reading s at (summed value (get_or s pos 0 % 128) shift) (pos + 1) (shift + 7)
  again l h b =
      record {
        left = r.left - 1;
        places = omega (arith, r.places);
        begun = omega (arith, r.begun);
        inside = omega arith;
        weight = omega (arith, r.begun, r.weight);
        sum = summed-is h;
        walk = walk-next l ∙ end_more s at pos (r.left - 1) h b;
      }

  -- it is the last
  pub answer_last : pos < at + 10 → pos < length s → get_or s pos 0 < 128
      → was_read (summed value (get_or s pos 0 % 128) shift) (pos + 1) (not (eqb (get_or s pos 0) 0)) ≡ read_uvarint s at
  answer_last l h b = rw (summed-is h) (answer_more s at pos r.begun (walk-next l ∙ end-last s at pos (r.left - 1) h b))

  -- the bytes end
  pub answer_cut : length s ≤ pos → refused 6 at ≡ read_uvarint s at
  answer_cut h = answer s at (r.walk ∙ end_none s at pos r.left h)

  -- ten bytes were read, and none was the last
  pub answer_long : at + 10 ≤ pos → pos < length s → refused 7 at ≡ read_uvarint s at
  answer_long l h =
      let z : r.left ≡ 0 = omega (arith, r.places) in
      answer s at ((rw z at r.walk) ∙ end-eleventh s at pos h)

-- a second byte that is the last
pub answer_two : (s : List ℕ) (at : ℕ) → at + 1 < length s → 128 ≤ get_or s at 0 → get_or s (at + 1) 0 < 128
    → was_read (get_or s at 0 % 128 + get_or s (at + 1) 0 * 128) (at + 2) (not (eqb (get_or s (at + 1) 0) 0)) ≡ read_uvarint s at
answer_two s at h b c =
    let v : get_or s at 0 % 128 + get_or s (at + 1) 0 * 128 ≡ summed (get_or s at 0 % 128) (get_or s (at + 1) 0 % 128) 7 = omega arith in
    let n : at + 2 ≡ at + 1 + 1 = omega arith in
    rw (v, n) (answer_last (begin s at (omega arith) b) (omega arith) h c)
