-- The questions on one block; and what filling requires: that those on the body, or on the blocks from a place on, were all answered with yes.
use Rattle.std.specs.Prelude.{◌≡◌, List, ℕ, Option}
use Rattle.format.specs.Outcome.{Outcome, ok, ◌>>=◌}
use Rattle.format.specs.Varint.{read_uvarint, first_padded}
use Rattle.format.specs.Delta.{block_count, validate_blocks, validate_delta}
use Rattle.format.specs.Parts.{packed_extent}
use Rattle.format.specs.declared.Extent.{Extent}

-- a block of n deltas at a place: "least delta as signed varint, width byte, packed offsets"
unfoldable pub block_extent : List ℕ → ℕ → ℕ → Option ℕ → Outcome Extent
block_extent s at n padded = do
  low ← read_uvarint s at
  packed_extent s low.next n (first_padded padded at low.unpadded)

-- blocks of `left` deltas from `at` on
pub record BlocksThere (s : List ℕ) (size at left : ℕ) : Type 0 where
  pub padded : Option ℕ
  pub extent : Extent
  pub passed : validate_blocks s size at (block_count size left) left padded ≡ ok extent

-- a body of `count` values from `start` on
pub record BodyThere (s : List ℕ) (start count : ℕ) : Type 0 where
  pub padded : Option ℕ
  pub extent : Extent
  pub passed : validate_delta s start count padded ≡ ok extent
