-- A turn of the loops over varints in a row: an answer with a value, or with bytes written, is one step of the row; a refusal is its end.
use mathlib.Core.Path.{◌≡◌, refl, sym, ap, ◌∙◌}
use mathlib.Core.List.{List, [], ◌∷◌, ◌++◌}
use Prim.Native.Nat.{ℕ, zero, suc, ◌+◌, ◌-◌, ◌≤◌, ◌<◌}
use native.Mathlib.Numerals.{add-one}
use native.Mathlib.Omega.{arith}
use lib.Dec.{leb}
use lib.ListN.{length, get_or, set, take, drop, take-append-drop, length-drop, drop_of_length-le}
use lib.Seq.{drop-cons, set_split, drop-drop}
use borrow.Author.Tests.{leb-true}
use Rattle.format.specs.Outcome.{Outcome, refused, ok, check, ◌>>=◌, value_or}
use Rattle.format.specs.Answers.{stored_answer, stored}
use Rattle.format.specs.Varint.{read_uvarint, uvarint_len}
use Rattle.format.specs.Standalone.{uvarint_write_outcome, uvarint_write_answer, uvarint_write_output}
use Rattle.format.specs.Varint.{Uvarint}
use Rattle.format.proofs.Codecs.Outcome.{both-passed, check-passed}
use Rattle.format.proofs.Numbers.Uvarints.{length-uvarint_bytes}
use Rattle.bench.specs.Rows.{row_values, row_bytes}
use Rattle.bench.proofs.Filled.{Filled, more}

-- what follows from one variant being another
zero-not-one {ℓ} : {C : Type ℓ} → ◌≡◌ {A = ℕ} 0 1 → C
zero-not-one z = absurd (omega arith)

-- ---- reading

module _ (s : List ℕ) (at : ℕ) where
  -- the row ends at a refusal,
  pub row-stop : (room : ℕ) {number offset : ℕ} → read_uvarint s at ≡ refused number offset → row_values s at room ≡ []
  unfolding row_values
  row-stop zero e = refl
  row-stop (suc room) e = rw e

  -- and where there is no room
  pub row-full : (room : ℕ) → room ≤ 0 → row_values s at room ≡ []
  unfolding row_values
  row-full zero h = refl
  row-full (suc room) h = absurd (omega arith)

  -- one value more is stored
  pub row_read : {row old out : List ℕ} {i : ℕ} {r : Uvarint} → Filled row old out i (row_values s at (length old - i)) → i < length old
      → read_uvarint s at ≡ ok r → Filled row old (set out i r.value) (i + 1) (row_values s r.next (length old - (i + 1)))
  unfolding row_values
  row_read {row} {old} {out} {i} {r} f h e =
      let left = length old - (i + 1) in
      let size : length old - i ≡ suc left = omega arith in
      more (r.value ∷ []) (row_values s r.next left) f (ap (row_values s at) size ∙ rw e) refl (omega arith)
      (set_split out i r.value (omega arith) ∙ rw (drop-drop 1 i out, add-one i))

-- ---- writing

accepted {ℓ} : {C : Type ℓ} (o : Outcome (List ℕ)) {n : ℕ} → stored_answer o ≡ ok n → ((bytes : List ℕ) → o ≡ ok bytes → length bytes ≡ n → C) → C
accepted (ok bytes) e goal = goal bytes refl (cc)
accepted (refused number offset) e goal = zero-not-one (cc)

not-accepted : (o : Outcome (List ℕ)) {number offset : ℕ} → stored_answer o ≡ refused number offset → o ≡ refused number offset
not-accepted (refused number offset) e = cc
not-accepted (ok bytes) e = zero-not-one (cc)

-- what was written fits
fits : (x space : ℕ) {bytes : List ℕ} → uvarint_write_outcome x space ≡ ok bytes → length bytes ≤ space
unfolding uvarint_write_outcome
fits x space {bytes} h =
    both-passed (check (leb (uvarint_len x) space) 20 (uvarint_len x)) _ h λ _ passed e.
    let room = leb-true (uvarint_len x) space (check-passed _ _ _ passed) in
    let long : length bytes ≡ uvarint_len x = cc (length-uvarint_bytes x) in
    omega arith

-- the row, by the outcome of its first value
row_is : (values : List ℕ) (i space : ℕ) → i < length values
    → row_bytes (drop i values) space
    ≡ value_or [] (uvarint_write_outcome (get_or values i 0) space >>= λ bytes. ok (bytes ++ row_bytes (drop (i + 1) values) (space - length bytes)))
unfolding row_bytes
row_is values i space h = rw (drop-cons values i 0, add-one i)

-- a turn that writes the varint of the value at i: the call is lent what out has from `at` on, and leaves `part` there, which makes next
module _ (values : List ℕ) (i : ℕ) {row old out : List ℕ} {at : ℕ} (f : Filled row old out at (row_bytes (drop i values) (length old - at)))
    (h : i < length values) {answer : Outcome ℕ} {part next : List ℕ} (told : answer ≡ uvarint_write_answer (get_or values i 0) (length (drop at out)))
    (left : part ≡ uvarint_write_output (get_or values i 0) (drop at out)) (back : next ≡ take at out ++ part) where
  space-is : length (drop at out) ≡ length old - at
  space-is = length-drop at out ∙ ap (λ (n : ℕ). n - at) f.long

  -- the varint is written,
  pub row_written : {n : ℕ} → answer ≡ ok n → Filled row old next (at + n) (row_bytes (drop (i + 1) values) (length old - (at + n)))
  unfolding uvarint_write_answer uvarint_write_output stored
  row_written {n} e =
      accepted (uvarint_write_outcome (get_or values i 0) (length (drop at out))) (sym told ∙ e) λ bytes o size.
      let q : uvarint_write_outcome (get_or values i 0) (length old - at) ≡ ok bytes = ap (uvarint_write_outcome (get_or values i 0)) (sym space-is) ∙ o in
      let room = fits (get_or values i 0) (length old - at) q in
      let later : length old - at - length bytes ≡ length old - (at + n) = omega arith in
      more bytes (row_bytes (drop (i + 1) values) (length old - (at + n))) f
      (row_is values i (length old - at) h ∙ rw (q, later)) size (omega arith)
      (back ∙ ap (λ (l : List ℕ). take at out ++ l) (left ∙ rw (o, size)))

  -- or there is no room for it: the output is as it was, and the row ends
  pub row-refused : {number offset : ℕ} → answer ≡ refused number offset → (row_bytes (drop i values) (length old - at) ≡ []) × (next ≡ out)
  unfolding uvarint_write_answer uvarint_write_output
  row-refused {number} {offset} e =
      let x = get_or values i 0 in
      let o = not-accepted (uvarint_write_outcome x (length (drop at out))) (sym told ∙ e) in
      let q : uvarint_write_outcome x (length old - at) ≡ refused number offset = ap (uvarint_write_outcome x) (sym space-is) ∙ o in
      (row_is values i (length old - at) h ∙ rw q, back ∙ ap (λ (l : List ℕ). take at out ++ l) (left ∙ rw o) ∙ take-append-drop at out)

-- the row ends with the values
pub row-end : (values : List ℕ) (i space : ℕ) → length values ≤ i → row_bytes (drop i values) space ≡ []
unfolding row_bytes
row-end values i space h = rw (drop_of_length-le values h)
