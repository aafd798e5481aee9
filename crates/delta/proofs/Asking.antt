-- The lists of questions, one step on: blocks are asked about the next one and then the rest, and a body about its first value, its block size and its blocks.
use mathlib.Core.Path.{◌≡◌, refl, sym, ap, ◌∙◌}
use mathlib.Core.List.{List}
use Prim.Native.Nat.{ℕ, suc, ◌-◌, ◌^◌, ◌≤◌, ◌<◌, min}
use native.Mathlib.Omega.{arith}
use borrow.Author.Tests.{le-leb}
use Rattle.std.specs.Prelude.{Option}
use Rattle.format.specs.Outcome.{Outcome, refused, ok, check, ◌>>=◌}
use Rattle.format.specs.Varint.{read_uvarint, first_padded}
use Rattle.format.specs.Encodings.{max_chunk_elements, within}
use Rattle.format.specs.Delta.{block_count, validate_blocks, validate_delta}
use Rattle.format.specs.Parts.{packed_extent}
use Rattle.format.specs.declared.Extent.{Extent}
use Rattle.delta.specs.There.{block_extent}
use Rattle.delta.proofs.There.{block_count-more, block_count-none}

-- three lists of questions in a row
in_a_row : {A B C : Type 0} (o : Outcome A) (f : A → Outcome B) (g : B → Outcome C) → ((o >>= f) >>= g) ≡ (o >>= λ a. f a >>= g)
in_a_row (refused number offset) f g = refl
in_a_row (ok a) f g = refl

-- the next block, and the rest
pub block_next :
    (s : List ℕ) (size at left deltas : ℕ) (padded : Option ℕ) → 1 ≤ size → left ≤ deltas → deltas ≤ max_chunk_elements → 0 < left
    → validate_blocks s size at (block_count size left) left padded
    ≡ (block_extent s at (min left size) padded >>= λ x. validate_blocks s size x.end (block_count size (left - min left size)) (left - min left size) x.padded)
unfolding validate_blocks block_extent packed_extent
block_next s size at left deltas padded some within few more =
    ap (λ (k : ℕ). validate_blocks s size at k left padded) (block_count-more size left some more)
    ∙ rw (le-leb (min left size) max_chunk_elements (omega arith)) (simp in_a_row)

-- the same, of a block that was read: `later` deltas are left after it
pub block_read :
    (s : List ℕ) (size at left deltas : ℕ) (padded : Option ℕ) → 1 ≤ size → left ≤ deltas → deltas ≤ max_chunk_elements → 0 < left → (n later : ℕ) → n ≡ min left size → later ≡ left - n
    → {read : Extent} → ok read ≡ block_extent s at n padded
    → validate_blocks s size read.end (block_count size later) later read.padded ≡ validate_blocks s size at (block_count size left) left padded
block_read s size at left deltas padded some within few more n later e l r =
    sym (block_next s size at left deltas padded some within few more ∙ rw (← e, ← r, ← l))

-- no block is left
pub block_end :
    (s : List ℕ) (size at left : ℕ) (padded : Option ℕ) → 1 ≤ size → left ≡ 0
    → validate_blocks s size at (block_count size left) left padded ≡ ok (record { end = at; padded = padded })
unfolding validate_blocks
block_end s size at left padded some e = rw (block_count-none size left some e)

module _ (s : List ℕ) (start count : ℕ) (padded : Option ℕ) where
  -- no values: "with count 0 nothing more"
  pub body_none : count ≡ 0 → validate_delta s start count padded ≡ ok (record { end = start; padded = padded })
  unfolding validate_delta
  body_none e = rw e

  pub body_more :
      0 < count → validate_delta s start count padded
      ≡ (read_uvarint s start >>= λ first. read_uvarint s first.next >>= λ size. check (within 1 (2 ^ 20) size.value) 19 size.next >>= λ _.
      validate_blocks s size.value size.next (block_count size.value (count - 1)) (count - 1) (first_padded (first_padded padded start first.unpadded) first.next size.unpadded))
  unfolding validate_delta
  body_more h = let e : count ≡ suc (count - 1) = omega arith in ap (λ (n : ℕ). validate_delta s start n padded) e
