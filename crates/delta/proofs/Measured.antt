-- A body in its blocks, and how long they are: the blocks of some deltas are the first one and those of the rest; a block has the length that its bounds give; and
-- the length of all is far below 2 ^ 64.
use mathlib.Core.Path.{◌≡◌, refl, sym, ap, ap₂, ◌∙◌}
use mathlib.Core.List.{List, [], ◌∷◌, ◌++◌}
use Prim.Native.Nat.{ℕ, zero, suc, ◌+◌, ◌-◌, ◌*◌, ◌≤◌, ◌<◌, min}
use native.Mathlib.Decide.{dec_le}
use native.Mathlib.Omega.{arith}
use lib.Dec.{lit≤}
use lib.IntN.{ℤ}
use lib.ListN.{length, take, drop, length-append, length-take, length-drop, drop_of_length-le}
use lib.Seq.{take_all, take-length, drop-length}
use Rattle.std.specs.Prelude.{Some, None}
use Rattle.std.specs.List.{slice_get, flat_map}
use Rattle.format.specs.Keys.{gap}
use Rattle.format.specs.Varint.{uvarint_len, varint_len, uvarint_bytes, varint_bytes}
use Rattle.format.specs.Width.{width}
use Rattle.format.specs.Packing.{packed_len}
use Rattle.format.specs.Folds.{least, greatest, deltas}
use Rattle.format.specs.Delta.{delta_block_size, block_count, block_bytes, blocks_bytes, delta_body}
use Rattle.format.proofs.Numbers.Columns.{deltas-keys}
use Rattle.format.proofs.Numbers.Keys.{length-varint_bytes, varint_len-le}
use Rattle.format.proofs.Numbers.Uvarints.{length-uvarint_bytes}
use Rattle.format.proofs.Numbers.Widths.{width-le, uvarint_len_le}
use Rattle.format.proofs.Numbers.Packing.{packed_len-most}
use Rattle.format.proofs.Lengths.DeltaLength.{block_len, blocks_len, length-block, length-blocks}
use Rattle.delta.specs.Written.{blocks_of, parts, parts_of, to_come}
use Rattle.delta.specs.declared.writing.Windows.{Windows}
use Rattle.delta.proofs.There.{block_count-more, block_count-none}
use Rattle.delta.proofs.Windows.{length-deltas, first-deltas, later-deltas}

-- ---- the next block, and the rest

-- 128, or all that there are
module _ (l : List ℤ) {n : ℕ} (e : n ≡ min (length l) 128) where
  cut : (take 128 l ≡ take n l) × (drop 128 l ≡ drop n l)
  cut = go (dec_le 128 (length l))
    where
      go : Dec (128 ≤ length l) → (take 128 l ≡ take n l) × (drop 128 l ≡ drop n l)
      go (yes h) = let m : 128 ≡ n = omega arith in (ap (λ (k : ℕ). take k l) m, ap (λ (k : ℕ). drop k l) m)
      go (no h) =
          let m : length l ≡ n = omega arith in (
            take_all 128 l (omega arith) ∙ sym (take-length l) ∙ ap (λ (k : ℕ). take k l) m,
            drop_of_length-le l {i = 128} (omega arith) ∙ sym (drop-length l) ∙ ap (λ (k : ℕ). drop k l) m,
          )

module _ (ds : List ℤ) where
  parts-empty : length ds ≡ 0 → parts_of ds ≡ []
  unfolding parts_of parts
  parts-empty e = ap (λ (k : ℕ). parts k ds) (block_count-none 128 (length ds) (lit≤ tt) e)

  parts-next : (n : ℕ) → 1 ≤ length ds → n ≡ min (length ds) 128 → parts_of ds ≡ take n ds ∷ parts_of (drop n ds)
  unfolding parts_of parts
  parts-next n some e =
      let k : block_count 128 (length ds) ≡ suc (block_count 128 (length (drop n ds))) =
      block_count-more 128 (length ds) (lit≤ tt) some ∙ ap (λ (m : ℕ). suc (block_count 128 m)) (ap (λ (m : ℕ). length ds - m) (sym e) ∙ sym (length-drop n ds)) in
      ap (λ (m : ℕ). parts m ds) k
      ∙ ap₂ (λ (a b : List ℤ). a ∷ parts (block_count 128 (length (drop n ds))) b) (cut ds e).0 (cut ds e).1

-- the bytes of blocks are those of each
bytes-of-parts : (k : ℕ) (ds : List ℤ) → blocks_bytes k ds ≡ flat_map block_bytes (parts k ds)
unfolding blocks_bytes parts
bytes-of-parts zero ds = refl
bytes-of-parts (suc k) ds = ap (λ (l : List ℕ). block_bytes (take 128 ds) ++ l) (bytes-of-parts k (drop 128 ds))

blocks-are : (ds : List ℤ) → blocks_of ds ≡ flat_map block_bytes (parts_of ds)
unfolding blocks_of parts_of
blocks-are ds = bytes-of-parts (block_count 128 (length ds)) ds

-- ---- a walk along the windows of a column

module _ (w : Windows) where
  -- no window is left,
  pub none_left : length w.0.now ≤ 1 → to_come w ≡ []
  unfolding to_come
  none_left h = parts-empty (deltas w.0.now) (omega (arith, length-deltas w.0.now))

  -- and so no block
  pub no_block : to_come w ≡ [] → blocks_of (deltas w.0.now) ≡ []
  unfolding to_come
  no_block e = blocks-are (deltas w.0.now) ∙ ap (flat_map block_bytes) e

  module _ (rest : Windows) where
    -- one is taken: its deltas are those of the next block
    pub window_taken : (n : ℕ) → 2 ≤ length w.0.now → n ≡ min (length w.0.now - 1) 128 → rest.0.now ≡ drop n w.0.now
        → to_come w ≡ deltas (take (n + 1) w.0.now) ∷ to_come rest
    unfolding to_come
    window_taken n h e r =
        parts-next (deltas w.0.now) n (omega (arith, length-deltas w.0.now)) (e ∙ ap (λ (k : ℕ). min k 128) (sym (length-deltas w.0.now)))
        ∙ ap₂ (λ (a b : List ℤ). a ∷ parts_of b) (sym (first-deltas w.0.now n)) (sym (later-deltas w.0.now n) ∙ ap deltas (sym r))

    pub fewer : (n : ℕ) → 2 ≤ length w.0.now → n ≡ min (length w.0.now - 1) 128 → rest.0.now ≡ drop n w.0.now
        → length (to_come rest) < length (to_come w)
    fewer n h e r = omega (arith, ap length (window_taken n h e r))

    pub block_taken : {ds : List ℤ} → to_come w ≡ ds ∷ to_come rest → blocks_of (deltas w.0.now) ≡ block_bytes ds ++ blocks_of (deltas rest.0.now)
    unfolding to_come
    block_taken {ds} e =
        blocks-are (deltas w.0.now) ∙ ap (flat_map block_bytes) e ∙ ap (λ (l : List ℕ). block_bytes ds ++ l) (sym (blocks-are (deltas rest.0.now)))

    pub block_counted : {ds : List ℤ} → to_come w ≡ ds ∷ to_come rest
        → length (blocks_of (deltas w.0.now)) ≡ length (block_bytes ds) + length (blocks_of (deltas rest.0.now))
    block_counted {ds} e = ap length (block_taken e) ∙ length-append (block_bytes ds) (blocks_of (deltas rest.0.now))

  pub none_counted : to_come w ≡ [] → length (blocks_of (deltas w.0.now)) ≡ 0
  none_counted e = ap length (no_block e)

-- ---- lengths

-- a block of deltas, by its bounds
pub block-length : (column : List ℤ) → length (block_bytes (deltas column))
    ≡ varint_len (least (deltas column)) + 1 + packed_len (length (deltas column)) (width (gap (least (deltas column)) (greatest (deltas column))))
unfolding block_len
block-length column = length-block (deltas column) (deltas-keys column) ∙ omega arith

-- at most 11 bytes beside eight for a delta
block-most : (ds : List ℤ) → block_len ds ≤ 11 + 8 * length ds
unfolding block_len
block-most ds = omega (arith, varint_len-le (least ds), packed_len-most (length ds) (width (gap (least ds) (greatest ds))) (width-le (gap (least ds) (greatest ds))))

pub block-limit : (column : List ℤ) → length (block_bytes (deltas column)) ≤ 11 + 8 * length (deltas column)
block-limit column = omega (arith, length-block (deltas column) (deltas-keys column), block-most (deltas column))

blocks-most : (k : ℕ) (ds : List ℤ) → blocks_len k ds ≤ 11 * k + 8 * length ds
unfolding blocks_len
blocks-most zero ds = omega arith
blocks-most (suc k) ds =
    omega (arith, block-most (take 128 ds), blocks-most k (drop 128 ds), length-take 128 ds, length-drop 128 ds)

pub blocks_limit : (column : List ℤ) → length (blocks_of (deltas column)) ≤ 11 + 9 * length column
unfolding blocks_of block_count
blocks_limit column =
    let ds : List ℤ = deltas column in
    omega (arith, length-blocks (block_count 128 (length ds)) ds (deltas-keys column), blocks-most (block_count 128 (length ds)) ds, length-deltas column)

-- ---- the body

pub body-empty : (column : List ℤ) → None ≡ slice_get column 0 → delta_body column ≡ []
unfolding delta_body
body-empty [] e = refl
body-empty (v ∷ vs) e = cc

pub body-parts : (column : List ℤ) {first : ℤ} → Some first ≡ slice_get column 0
    → delta_body column ≡ varint_bytes first ++ (uvarint_bytes delta_block_size ++ blocks_of (deltas column))
unfolding delta_body blocks_of
body-parts [] e = cc
body-parts (v ∷ vs) {first} e = let same : first ≡ v = cc in rw same

pub body-length : (column : List ℤ) {first : ℤ} → Some first ≡ slice_get column 0
    → length (delta_body column) ≡ varint_len first + uvarint_len delta_block_size + length (blocks_of (deltas column))
body-length column {first} e =
    let rest : List ℕ = uvarint_bytes delta_block_size ++ blocks_of (deltas column) in
    ap length (body-parts column e)
    ∙ omega (
      arith,
      length-append (varint_bytes first) rest,
      length-append (uvarint_bytes delta_block_size) (blocks_of (deltas column)),
      length-varint_bytes first,
      length-uvarint_bytes delta_block_size,
    )

pub body-limit : (column : List ℤ) → length (delta_body column) ≤ 31 + 9 * length column
body-limit [] = omega (arith, ap length (body-empty [] refl))
body-limit (v ∷ vs) =
    omega (
      arith,
      body-length (v ∷ vs) refl,
      varint_len-le v,
      uvarint_len_le delta_block_size,
      blocks_limit (v ∷ vs),
    )
