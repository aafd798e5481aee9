-- A BitPacked body from its parts: how long it is, that it is a width byte and the packed ZigZags after it, that the questions of a packed body are its
-- questions, and that a body that was passed lies inside the chunk.
use mathlib.Core.Path.{◌≡◌, sym, ap, ap₂, ◌∙◌}
use mathlib.Core.List.{List, ◌∷◌, map}
use Prim.Native.Nat.{ℕ, ◌+◌, ◌≤◌}
use lib.IntN.{ℤ}
use lib.ListN.{length, length-map}
use borrow.Author.Tests.{le-leb}
use Rattle.format.specs.Encodings.{max_chunk_elements}
use Rattle.format.specs.Keys.{zigzag}
use Rattle.format.specs.Width.{width}
use Rattle.format.specs.Folds.{largest}
use Rattle.format.specs.Packing.{packed_len, packed, width_at, packed_end}
use Rattle.format.specs.BitPacked.{packed_body, bit_packed_body, validate_bit_packed}
use Rattle.format.specs.Chunk.{body_of, validate_body}
use Rattle.format.specs.Parts.{packed_extent}
use Rattle.format.specs.declared.encoding.Encoding.TheVariants.{BitPacked}
use Rattle.format.specs.declared.Header.{Header}
use Rattle.format.proofs.Codecs.Outcome.{both-passed}
use Rattle.format.proofs.Lengths.Parts.{length-packed_body}
use Rattle.places.specs.Packed.{Inside}
use Rattle.std.specs.Prelude.{Option}
use Rattle.codec.specs.Valid.{Valid}
use Rattle.codec.proofs.Settling.{passed-inside}

-- ---- writing

module _ (column : List ℤ) {w : ℕ} (e : w ≡ width (largest (map zigzag column))) where
  pub body_length : length (body_of BitPacked column) ≡ 1 + packed_len (length column) w
  unfolding body_of bit_packed_body
  body_length = length-packed_body (map zigzag column) ∙ ap₂ (λ (n k : ℕ). 1 + packed_len n k) (length-map column zigzag) (sym e)

  pub body_is : w ∷ packed w (map zigzag column) ≡ body_of BitPacked column
  unfolding body_of bit_packed_body packed_body
  body_is = ap (λ (k : ℕ). k ∷ packed k (map zigzag column)) e

-- ---- reading

-- no count that a header has is refused
pub extent-asked : (s : List ℕ) (start count : ℕ) (padded : Option ℕ) → count ≤ max_chunk_elements → packed_extent s start count padded ≡ validate_body BitPacked s start count padded
unfolding packed_extent validate_body validate_bit_packed
extent-asked s start count padded few = rw (le-leb count max_chunk_elements few)

pub body-inside : {s : List ℕ} {h : Header} → Valid BitPacked s h → Inside s h.start h.count
unfolding validate_body validate_bit_packed
body-inside {s} {h} v =
    both-passed (width_at s h.start) _ v.passed λ w byte h₁.
    both-passed (packed_end s (h.start + 1) w h.count) _ h₁ λ end rest h₂.
    passed-inside v.few byte rest
