-- A FrameOfReference body from its parts: how long it is, that it is the least value's bytes, a width byte and the packed differences, and its questions, which are
-- those of a packed body after the first.
use mathlib.Core.Path.{◌≡◌, sym, ◌∙◌}
use mathlib.Core.List.{List, ◌∷◌, ◌++◌, map}
use Prim.Native.Nat.{ℕ, ◌+◌, ◌-◌, ◌≤◌}
use native.Mathlib.Numerals.{add-one}
use native.Mathlib.Omega.{arith}
use lib.IntN.{ℤ}
use lib.Dec.{leb}
use lib.ListN.{length, get_or, set, length-append, length-map}
use lib.Seq.{sets}
use borrow.Author.Tests.{lt-ltb, le-leb, leb-true}
use Rattle.format.specs.Outcome.{check}
use Rattle.format.specs.Encodings.{max_chunk_elements}
use Rattle.format.specs.Keys.{gap, key_bytes}
use Rattle.format.specs.Packing.{packed_len, packed, width_at, packed_end}
use Rattle.format.specs.BitPacked.{packed_body}
use Rattle.format.specs.Frame.{frame_body, validate_frame}
use Rattle.format.specs.Chunk.{body_of, validate_body}
use Rattle.format.specs.Parts.{packed_extent}
use Rattle.format.specs.declared.encoding.Encoding.TheVariants.{FrameOfReference}
use Rattle.format.specs.declared.Header.{Header}
use Rattle.std.specs.Prelude.{Option, Some}
use Rattle.std.proofs.lemmas.Option.{same_Some}
use Rattle.places.proofs.Placing.{Put}
use Rattle.format.proofs.Codecs.Outcome.{both-passed, check-passed}
use Rattle.format.proofs.Lengths.Parts.{length-packed_body}
use Rattle.format.proofs.Numbers.Keys.{length-key_bytes}
use Rattle.format.proofs.Numbers.Stores.{sets-append}
use Rattle.codec.specs.Valid.{Valid}
use Rattle.places.specs.Packed.{Inside}
use Rattle.codec.proofs.Settling.{passed-inside}
use Rattle.frame.specs.declared.writing.Fit.{Fit}
use Rattle.frame.specs.Fit.{Fitted}

-- ---- writing

-- the least value, and then a byte and others after it, stored one after the other
module _ (low : ℤ) (output : List ℕ) (start : ℕ) {end : Option ℕ} {begun : List ℕ} (put : Put (key_bytes low) output start begun end) {at : ℕ} (found : end ≡ Some at) where
  pub key_end : at ≡ start + 8
  key_end = let e : at ≡ start + length (key_bytes low) = same_Some _ _ (sym found ∙ put.0) in omega (arith, e, length-key_bytes low)

  pub parts-stored : (w : ℕ) (bytes : List ℕ) {out : List ℕ} → out ≡ sets (set begun at w) (at + 1) bytes → out ≡ sets output start (key_bytes low ++ (w ∷ bytes))
  parts-stored w bytes e =
      let place : at ≡ start + length (key_bytes low) = same_Some _ _ (sym found ∙ put.0) in
      e ∙ rw (add-one at, put.1, place) (sym (sets-append (key_bytes low) (w ∷ bytes) output start))

module _ (column : List ℤ) {r : Fit} (f : Fitted column r) where
  pub body_length : length (body_of FrameOfReference column) ≡ 9 + packed_len (length column) r.width.bits
  unfolding body_of frame_body
  body_length = rw f.widest (simp (length-append, length-key_bytes, length-packed_body, length-map) (omega arith))

  pub body_is : key_bytes r.least ++ (r.width.bits ∷ packed r.width.bits (map (gap r.least) column)) ≡ body_of FrameOfReference column
  unfolding body_of frame_body packed_body
  body_is = rw (f.base, f.widest)

-- ---- reading

-- after the nine bytes the questions are those of a packed body
pub frame-asked :
    (s : List ℕ) (start count : ℕ) (padded : Option ℕ) → count ≤ max_chunk_elements → start + 9 ≤ length s
    → packed_extent s (start + 8) count padded ≡ validate_body FrameOfReference s start count padded
unfolding packed_extent width_at validate_body validate_frame
frame-asked s start count padded few nine =
    let e : start + 8 + 1 ≡ start + 9 = omega arith in
    rw (le-leb count max_chunk_elements few, lt-ltb (start + 8) (length s) (omega arith), le-leb (start + 9) (length s) nine, e)

pub body-inside : {s : List ℕ} {h : Header} → Valid FrameOfReference s h → Inside s (h.start + 8) h.count
unfolding validate_body validate_frame width_at
body-inside {s} {h} v =
    both-passed (check (leb (h.start + 9) (length s)) 11 h.start) _ v.passed λ _ nine h₁.
    both-passed (packed_end s (h.start + 9) (get_or s (h.start + 8) 0) h.count) _ h₁ λ end rest h₂.
    let there : h.start + 9 ≤ length s = leb-true (h.start + 9) (length s) (check-passed _ 11 h.start nine) in
    let e : h.start + 9 ≡ h.start + 8 + 1 = omega arith in
    passed-inside v.few (rw (lt-ltb (h.start + 8) (length s) (omega arith))) (rw e at rest)
