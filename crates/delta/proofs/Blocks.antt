-- Blocks stored one after the other. The deltas of the blocks left are those of the next block and those of the blocks after it, so what is left, summed behind what
-- is stored, is the whole.
use mathlib.Core.Path.{◌≡◌, ap, ◌∙◌}
use mathlib.Core.List.{List, ◌++◌}
use Prim.Native.Nat.{ℕ, ◌+◌, ◌-◌, ◌≤◌, ◌<◌, min}
use native.Mathlib.Omega.{arith}
use lib.IntN.{ℤ}
use lib.ListN.{length, get_or}
use Rattle.format.specs.Outcome.{refused, ok}
use Rattle.format.specs.Keys.{zigzag, unzigzag}
use Rattle.format.specs.Varint.{read_uvarint, Uvarint}
use Rattle.format.specs.Packing.{packed_len, packed_values}
use Rattle.format.specs.Standalone.{read_varint, Varint}
use Rattle.format.specs.Delta.{block_count, block_deltas}
use Rattle.format.proofs.Numbers.Keys.{unzigzag-zigzag}
use Rattle.format.proofs.Codecs.Counts.{uvarint-again}
use Rattle.varint.proofs.Answers.{signed-read, signed-refused}
use Rattle.delta.specs.Summed.{from_least, summed}
use Rattle.delta.specs.There.{BlocksThere}
use Rattle.delta.proofs.Sums.{Summing, summing-part, summing-done}
use Rattle.delta.proofs.Parts.{length-packed_deltas}
use Rattle.delta.proofs.There.{block_count-more, block_count-none, next-there, read-there}

-- the deltas of the next block, by its least delta and its width, and those after it
abbrev from_low : List ℕ → ℕ → ℕ → ℕ → Uvarint → ℕ → List ℤ
from_low s size k left low n =
    from_least (unzigzag low.value) (packed_values s (low.next + 1) (get_or s low.next 0) n)
    ++ block_deltas s size (low.next + 1 + packed_len n (get_or s low.next 0)) k (left - n)

-- The deltas of all blocks are to be summed behind the first value of l. By now the blocks from `at` on are left, with `left` deltas, and the value at `last` of
-- `column` was stored last.
pub record Blocks (s : List ℕ) (size from deltas : ℕ) (l column : List ℤ) (at last left : ℕ) : Type 0 where
  pub sums : Summing (block_deltas s size from (block_count size deltas) deltas) l 0 (block_deltas s size at (block_count size left) left) column last
  pub there : BlocksThere s size at left
  pub count : last + left ≡ deltas

module _ (s : List ℕ) (size from deltas : ℕ) {l column : List ℤ} (at last left : ℕ) (some : 1 ≤ size) (b : Blocks s size from deltas l column at last left) where
  module _ {low : Varint} (more : 1 ≤ left) (r : read_varint s at ≡ ok low) where
    low_read : read_uvarint s at ≡ ok (record { value = zigzag low.value; next = low.next; unpadded = low.unpadded })
    low_read = signed-read s at r

    next-deltas : let n = min left size in let w = get_or s low.next 0 in
        block_deltas s size at (block_count size left) left
        ≡ from_least low.value (packed_values s (low.next + 1) w n) ++ block_deltas s size (low.next + 1 + packed_len n w) (block_count size (left - n)) (left - n)
    unfolding block_deltas from_least
    next-deltas =
        let n : ℕ = min left size in
        let k : ℕ = block_count size (left - n) in
        ap (λ (j : ℕ). block_deltas s size at j left) (block_count-more size left some more)
        ∙ ap (λ (v : Uvarint). from_low s size k left v n) (uvarint-again s at low_read)
        ∙ ap (λ (z : ℤ). from_least z (packed_values s (low.next + 1) (get_or s low.next 0) n) ++ block_deltas s size (low.next + 1 + packed_len n (get_or s low.next 0)) k (left - n))
        (unzigzag-zigzag low.value)

    -- what the next block requires
    pub block-there : {n : ℕ} → n ≡ min left size → (get_or s low.next 0 ≤ 64) × (low.next + 1 + packed_len n (get_or s low.next 0) ≤ length s)
    block-there e = let h = next-there s size at left some more b.there low_read in rw e (h.narrow, h.packed)

    -- a block more
    pub blocks_more : (n : ℕ) {end : ℕ} {next : List ℤ} → n ≡ min left size → deltas < length l → end ≡ low.next + 1 + packed_len n (get_or s low.next 0)
        → next ≡ summed column last (from_least low.value (packed_values s (low.next + 1) (get_or s low.next 0) n))
        → Blocks s size from deltas l next end (last + n) (left - n)
    blocks_more n {end} {next} e room ee en =
        let w : ℕ = get_or s low.next 0 in
        let a : List ℤ = from_least low.value (packed_values s (low.next + 1) w n) in
        let rest : List ℤ = block_deltas s size end (block_count size (left - n)) (left - n) in
        let parted : block_deltas s size at (block_count size left) left ≡ a ++ rest = rw (ee, e) next-deltas in
        record {
          sums = rw en (summing-part b.sums a rest parted (length-packed_deltas low.value s (low.next + 1) w n) (omega (arith, b.count, b.sums.long)));
          there = rw (ee, e) (next-there s size at left some more b.there low_read).rest;
          count = omega (arith, b.count);
        }

  -- the least delta was read
  pub blocks-read : 1 ≤ left → (number offset : ℕ) → read_varint s at ≡ refused number offset → ⊥
  blocks-read more number offset r = read-there s size at left some more b.there (signed-refused s at r)

  -- nothing is left
  pub blocks-done : left ≡ 0 → column ≡ summed l 0 (block_deltas s size from (block_count size deltas) deltas)
  unfolding block_deltas
  blocks-done e = summing-done b.sums (ap (λ (k : ℕ). block_deltas s size at k left) (block_count-none size left some e))
