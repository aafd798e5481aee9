-- A block in the parts that are stored one behind the other: a varint, a width byte and packed offsets. Where there is room for the block, there is for each of them.
use mathlib.Core.Path.{◌≡◌, refl, sym, ap, ap₂, ◌∙◌}
use mathlib.Core.List.{List, [], ◌∷◌, ◌++◌, map, append-nil}
use Prim.Native.Nat.{ℕ, ◌+◌, ◌-◌, ◌≤◌, ◌<◌}
use native.Mathlib.Omega.{arith}
use lib.IntN.{ℤ}
use lib.ListN.{length, set, length-map}
use mir.Syntax.{w64}
use mir.Val.{to_z, of_z}
use Rattle.std.specs.Prelude.{Option, Some}
use Rattle.std.specs.List.{slice_get}
use Rattle.std.specs.Option.{IsSome}
use Rattle.format.specs.Keys.{Key, gap, zigzag}
use Rattle.format.specs.Varint.{uvarint_bytes, varint_bytes}
use Rattle.format.specs.Width.{width}
use Rattle.format.specs.Packing.{packed}
use Rattle.format.specs.Encodings.{max_chunk_elements}
use Rattle.format.specs.Folds.{least, greatest, deltas}
use Rattle.format.specs.BitPacked.{packed_body}
use Rattle.format.specs.Delta.{delta_block_size, block_bytes, delta_body}
use Rattle.format.specs.Standalone.{pack_outcome}
use Rattle.format.proofs.Numbers.Columns.{deltas-keys}
use Rattle.format.proofs.Numbers.Extremes.{largest-gaps}
use Rattle.format.proofs.Numbers.Stores.{Storing, storing-none, storing-one, storing-room}
use Rattle.format.proofs.Numbers.Widths.{width-le}
use Rattle.number.proofs.Signed.{held}
use Rattle.places.specs.Places.{laid, laid_place}
use Rattle.places.proofs.Placing.{PutUvarint, storing_uvarint, storing_uvarint_some, storing_packed, storing_packed_some}
use Rattle.delta.specs.Written.{blocks_of}
use Rattle.delta.proofs.Held.{low_held}
use Rattle.delta.proofs.Measured.{body-parts}
use Rattle.delta.proofs.Windows.{length-deltas}

module _ (window : List ℤ) where
  -- the offsets, and their width
  abbrev pub block_offsets : List ℕ
  block_offsets = map (gap (least (deltas window))) (deltas window)

  abbrev pub block_width : ℕ
  block_width = width (gap (least (deltas window)) (greatest (deltas window)))

  block-is : block_bytes (deltas window) ≡ uvarint_bytes (zigzag (least (deltas window))) ++ (block_width ∷ packed block_width block_offsets)
  unfolding block_bytes varint_bytes packed_body
  block-is = rw (largest-gaps (deltas window) (deltas-keys window))

  pub length-offsets : length block_offsets ≡ length window - 1
  length-offsets = length-map (deltas window) (gap (least (deltas window))) ∙ length-deltas window

-- the varint of the least delta, by its bits
module _ (window : List ℤ) (output : List ℕ) (at : ℕ) (room : at + length (block_bytes (deltas window)) ≤ length output) {low : ℤ} (l : low ≡ least (deltas window))
    {begun : List ℕ} {end : Option ℕ} (put : PutUvarint (zigzag (to_z w64 (of_z w64 low))) output at begun end)
  where
    low-put : PutUvarint (zigzag (least (deltas window))) output at begun end
    low-put = rw (low_held window l) at put

    pub low_some : IsSome end
    low_some = storing_uvarint_some storing-none room (zigzag (least (deltas window))) _ (block-is window) low-put

    module _ {next : ℕ} (found : end ≡ Some next) where
      low-stored : Storing (block_bytes (deltas window)) output at (block_width window ∷ packed (block_width window) (block_offsets window)) begun next
      low-stored = storing_uvarint storing-none room (zigzag (least (deltas window))) _ (block-is window) low-put found

      pub width_inside : next < length begun
      width_inside = omega (arith, storing-room low-stored room)

      -- the width byte, and the packed offsets
      module _ {w : ℕ} (wide : w ≡ block_width window) (values : List ℕ) (same : values ≡ block_offsets window) (short : length window ≤ 129) {last : List ℕ} {stop : Option ℕ}
          (packs : (stop ≡ laid_place (pack_outcome values w (length (set begun next w) - (next + 1))) (next + 1))
          × (last ≡ laid (pack_outcome values w (length (set begun next w) - (next + 1))) (next + 1) (set begun next w)))
        where
          widened : Storing (block_bytes (deltas window)) output at (packed w values) (set begun next w) (next + 1)
          widened = storing-one low-stored w (packed w values) (ap₂ (λ (k : ℕ) (vs : List ℕ). k ∷ packed k vs) (sym wide) (sym same))

          few : length values ≤ max_chunk_elements
          few = omega (arith, ap length same, length-offsets window)

          narrow : w ≤ 64
          narrow = omega (arith, wide, width-le (gap (least (deltas window)) (greatest (deltas window))))

          pub offsets_some : IsSome stop
          offsets_some = storing_packed_some widened room values w [] (sym (append-nil (packed w values))) few narrow packs

          pub block_stored : {place : ℕ} → stop ≡ Some place → Storing (block_bytes (deltas window)) output at [] last place
          block_stored there = storing_packed widened room values w [] (sym (append-nil (packed w values))) few narrow packs there

-- ---- a body: its first value's varint, the block size, the blocks

module _ (column : List ℤ) (output : List ℕ) (at : ℕ) (room : at + length (delta_body column) ≤ length output) {first : ℤ} (one : Some first ≡ slice_get column 0) (key : Key first)
    {begun : List ℕ} {end : Option ℕ} (put : PutUvarint (zigzag (to_z w64 (of_z w64 first))) output at begun end)
  where
    parts : delta_body column ≡ uvarint_bytes (zigzag first) ++ (uvarint_bytes delta_block_size ++ blocks_of (deltas column))
    unfolding varint_bytes
    parts = body-parts column one

    first-put : PutUvarint (zigzag first) output at begun end
    first-put = rw (held first key) at put

    pub first_some : IsSome end
    first_some = storing_uvarint_some storing-none room (zigzag first) _ parts first-put

    module _ {place : ℕ} (found : end ≡ Some place) {next : List ℕ} {stop : Option ℕ} (size : PutUvarint delta_block_size begun place next stop) where
      first-stored : Storing (delta_body column) output at (uvarint_bytes delta_block_size ++ blocks_of (deltas column)) begun place
      first-stored = storing_uvarint storing-none room (zigzag first) _ parts first-put found

      pub size_some : IsSome stop
      size_some = storing_uvarint_some first-stored room delta_block_size (blocks_of (deltas column)) refl size

      pub size_stored : {from : ℕ} → stop ≡ Some from → Storing (delta_body column) output at (blocks_of (deltas column)) next from
      size_stored there = storing_uvarint first-stored room delta_block_size (blocks_of (deltas column)) refl size there
