-- A loop that reads a packed body block by block and stores what a function gives of each number: the numbers that are left are packed from `at` on, and what is
-- left lies inside the chunk (`Filling`). Nothing cites how it begins (`filling-none`); it is kept as a law.
use mathlib.Core.List.{List, map}
use Prim.Native.Nat.{ℕ, ◌+◌, ◌-◌, ◌≤◌, zero-le}
use native.Mathlib.Nat.{sub-zero}
use lib.IntN.{ℤ}
use lib.ListN.{length}
use Rattle.format.specs.Packing.{packed_len, packed_values}
use Rattle.format.proofs.Numbers.Stores.{Storing, storing-none}

module _ (f : ℕ → ℤ) (s : List ℕ) (w : ℕ) where
  -- the values of the body at `start` are to be stored in l; i of them are, which makes `out`
  pub record Filling (start count : ℕ) (l out : List ℤ) (at i : ℕ) : Type 0 where
    pub passed : i ≤ count
    pub inside : at + packed_len (count - i) w ≤ length s
    pub storing : Storing (map f (packed_values s start w count)) l 0 (map f (packed_values s at w (count - i))) out i

  module _ {start count : ℕ} {l : List ℤ} where
    pub filling-none : start + packed_len count w ≤ length s → Filling start count l l start 0
    filling-none h = record { passed = zero-le; inside = rw (sub-zero count) h; storing = rw (sub-zero count) storing-none }
