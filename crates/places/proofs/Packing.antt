-- Packing what a function gives of each value of a column, block by block: the bytes of the values that are left are still to come (`Storing`).
use mathlib.Core.Path.{◌≡◌, sym, ap, ◌∙◌}
use mathlib.Core.List.{List, [], ◌++◌, map, map-append, append-nil}
use Prim.Native.Nat.{ℕ, ◌+◌, ◌-◌, ◌^◌, ◌≤◌, ◌<◌, min, zero-le}
use native.Mathlib.Decide.{dec_le}
use native.Mathlib.Omega.{arith}
use lib.IntN.{ℤ}
use lib.ListN.{length, take, drop, length-append, length-map, drop_of_length-le}
use lib.Seq.{sets, take_at}
use Rattle.std.specs.Prelude.{Option, Some}
use Rattle.std.specs.Option.{IsSome}
use Rattle.format.specs.Answers.{stored}
use Rattle.format.specs.Encodings.{max_chunk_elements}
use Rattle.format.specs.Packing.{packed_len, packed}
use Rattle.format.specs.Standalone.{pack_outcome}
use Rattle.format.proofs.Numbers.Packing.{packed_len-zero, packed_len-most, length-packed}
use Rattle.format.proofs.Numbers.Stores.{sets-stored, Storing, storing-none, storing-done}
use Rattle.bitpack.proofs.PackingLaws.{packed_none, packed-append}
use Rattle.places.specs.Places.{laid, laid_place}
use Rattle.places.proofs.Placing.{storing_packed, storing_packed_some}

-- the packed bytes of a column are few
pub packed_short : (count w : ℕ) → count ≤ max_chunk_elements → w ≤ 64 → packed_len count w < 2 ^ 31
packed_short count w few narrow = omega (arith, packed_len-most count w narrow)

-- what was stored at the front of a block
pub front-stored : (whole l : List ℕ) (n : ℕ) {out : List ℕ} → out ≡ sets l 0 whole → length whole ≡ n → n ≤ length l → take n out ≡ whole
unfolding stored
front-stored whole l n e many h = ap (take n) (e ∙ sets-stored whole l (omega (arith, many))) ∙ take_at whole (drop (length whole) l) n many

-- a block of 128 values fills whole bytes, and nothing follows a shorter one
packed-part : (w : ℕ) (part later : List ℕ) → length part ≡ min 128 (length part + length later) → packed w (part ++ later) ≡ packed w part ++ packed w later
packed-part w part later e = go (dec_le 128 (length part))
  where
    go : Dec (128 ≤ length part) → packed w (part ++ later) ≡ packed w part ++ packed w later
    go (yes h) = packed-append w 16 part later (omega arith)
    go (no h) =
        let none : later ≡ [] = drop_of_length-le later {i = 0} (omega arith) in
        rw (none, append-nil part, packed_none w [] (packed_len-zero w), append-nil (packed w part))

-- the bytes are to be stored in l from `from` on; those of the values before `rest` are, which makes `out`
module _ (f : ℤ → ℕ) (w : ℕ) (column rest : List ℤ) {l out : List ℕ} {from at : ℕ} (s : Storing (packed w (map f column)) l from (packed w (map f rest)) out at) where
  module _ (part later : List ℤ) (e : rest ≡ part ++ later) (n : length part ≡ min 128 (length rest)) (narrow : w ≤ 64) (h : from + packed_len (length column) w ≤ length l)
      {values next : List ℕ} {end : Option ℕ} (ev : values ≡ map f part)
      (put : (end ≡ laid_place (pack_outcome values w (length out - at)) at) × (next ≡ laid (pack_outcome values w (length out - at)) at out))
    where
      room : from + length (packed w (map f column)) ≤ length l
      room = omega (arith, h, length-packed w (map f column) ∙ ap (λ (k : ℕ). packed_len k w) (length-map column f))

      few : length values ≤ max_chunk_elements
      few = omega (arith, ap length ev, length-map part f, n)

      parted : packed w (map f rest) ≡ packed w values ++ packed w (map f later)
      parted =
          let parts : length part ≡ min 128 (length part + length later) = n ∙ ap (λ (r : List ℤ). min 128 (length r)) e ∙ ap (min 128) (length-append part later) in
          ap (λ (r : List ℤ). packed w (map f r)) e ∙ ap (packed w) (map-append f part later)
          ∙ packed-part w (map f part) (map f later) (omega (arith, parts, length-map part f, length-map later f))
          ∙ ap (λ (vs : List ℕ). packed w vs ++ packed w (map f later)) (sym ev)

      pub pack_some : IsSome end
      pack_some = storing_packed_some s room values w (packed w (map f later)) parted few narrow put

      pub pack_part : {place : ℕ} → end ≡ Some place → Storing (packed w (map f column)) l from (packed w (map f later)) next place
      pack_part = storing_packed s room values w (packed w (map f later)) parted few narrow put

  pub pack-done : length rest ≡ 0 → out ≡ sets l from (packed w (map f column))
  pack-done e =
      let none : rest ≡ [] = drop_of_length-le rest {i = 0} (omega arith) in
      storing-done s (ap (λ (r : List ℤ). packed w (map f r)) none ∙ packed_none w [] (packed_len-zero w))

-- The same, told by how many values are packed. Nothing cites how it begins (`placing-none`); it is kept as a law.
module _ (f : ℤ → ℕ) (w : ℕ) (column : List ℤ) where
  -- the bytes are to be stored in l from `from` on; those of i values are, which makes `out`
  pub record Placing (l : List ℕ) (from : ℕ) (out : List ℕ) (at i : ℕ) : Type 0 where
    pub passed : i ≤ length column
    pub storing : Storing (packed w (map f column)) l from (packed w (map f (drop i column))) out at

  module _ {l : List ℕ} {from : ℕ} where
    pub placing-none : Placing l from l from 0
    placing-none = record { passed = zero-le; storing = storing-none }
