-- How long each part of a length can be: so no sum of them overflows.
use mathlib.Core.Path.{◌≡◌, ◌∙◌}
use mathlib.Core.List.{List}
use lib.ListN.{length}
use Prim.Native.Nat.{ℕ, ◌+◌, ◌*◌, ◌/◌, max, ◌≤◌}
use native.Mathlib.Nat.{mul-le-mul}
use native.Mathlib.Omega.{arith}
use lib.IntN.{ℤ}
use Rattle.std.specs.Prelude.{Some, None}
use Rattle.std.proofs.lemmas.Option.{none-some}
use Rattle.format.specs.Varint.{varint_len}
use Rattle.format.specs.Width.{width}
use Rattle.format.specs.Packing.{packed_len}
use Rattle.format.specs.Encodings.{max_chunk_elements, max_dictionary_cardinality}
use Rattle.format.specs.Header.{header_len}
use Rattle.format.specs.Delta.{delta_block_size, block_count}
use Rattle.entries.specs.Measured.{body_len, measured_in}
use Rattle.entries.proofs.Limits.{body_len-most}
use Rattle.entries.proofs.Within.{measured-within}
use Rattle.format.proofs.Numbers.Keys.{varint_len-le}
use Rattle.format.proofs.Numbers.Packing.{packed_len-most}
use Rattle.format.proofs.Numbers.Widths.{width-le, uvarint_len_le}

-- ---- of any numbers

-- a signed varint
pub varint_most : (v : ℤ) {bytes : ℕ} → bytes ≡ varint_len v → bytes ≤ 10
varint_most v e = omega (arith, varint_len-le v)

-- a header: the id, the version and a varint
pub header_most : (count : ℕ) {bytes : ℕ} → bytes ≡ header_len count → bytes ≤ 12
unfolding header_len
header_most count e = omega (arith, uvarint_len_le count)

-- ---- of a column within the limits

module _ {count : ℕ} (few : count ≤ max_chunk_elements) where
  -- packed numbers
  pub packed_most : (largest : ℕ) {bytes : ℕ} → bytes ≡ packed_len count (width largest) → bytes ≤ 8 * max_chunk_elements
  packed_most largest e = omega (arith, packed_len-most count (width largest) (width-le largest))

  -- no more blocks than that, each of so many bytes
  pub blocks_most : (blocks bytes : ℕ) → blocks ≤ count → bytes ≤ 11 → blocks * bytes ≤ max_chunk_elements * 11
  blocks_most blocks bytes h each = let most : blocks ≤ max_chunk_elements = omega (arith, few, h) in mul-le-mul most each

  -- what the blocks are charged, which are no more than the deltas
  pub charge_most : (low high : ℤ) → block_count delta_block_size count * (max (varint_len low) (varint_len high) + 1) ≤ max_chunk_elements * 11
  unfolding block_count
  charge_most low high = blocks_most _ _ (omega arith) (omega (arith, varint_len-le low, varint_len-le high))

-- entries, and the codes of a column's values, both within the limits: they are measured
module _ (entries : List ℤ) {count : ℕ} (few : count ≤ max_chunk_elements) (held : length entries ≤ max_dictionary_cardinality) where
  pub entries_there : None ≡ measured_in entries count → ⊥
  entries_there e = none-some _ (e ∙ measured-within entries count few held)

  module _ {bytes : ℕ} (e : Some bytes ≡ measured_in entries count) where
    pub entries_made : bytes ≡ body_len entries count
    entries_made = let h : Some bytes ≡ Some (body_len entries count) = e ∙ measured-within entries count few held in cc

    pub entries_most : bytes ≤ 11 + 10 * max_dictionary_cardinality + 8 * max_chunk_elements
    entries_most = omega (arith, entries_made, body_len-most entries count)
