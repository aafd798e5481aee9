-- A loop that stores what a function gives of each element of a list: the values of what is left of it are still to come (`Mapping`).
use mathlib.Core.Path.{◌≡◌, ap}
use mathlib.Core.List.{List, [], ◌∷◌, map}
use Prim.Native.Nat.{ℕ, ◌+◌, ◌≤◌, ◌<◌, zero-le}
use native.Mathlib.Nat.{add-zero, add_assoc}
use native.Mathlib.Numerals.{add-one}
use native.Mathlib.Omega.{arith}
use lib.ListN.{length, get_or, set, drop, drop_of_length-le}
use lib.Seq.{sets, drop-cons}
use Rattle.format.proofs.Numbers.Stores.{Storing, storing-none, storing-one, storing-done}

module _ {A B : Type 0} (f : A → B) where
  -- the next value
  pub map_next : (xs : List A) (j : ℕ) (d : A) → j < length xs → map f (drop j xs) ≡ f (get_or xs j d) ∷ map f (drop (j + 1) xs)
  map_next xs j d h = rw (add-one j) (ap (map f) (drop-cons xs j d h))

  -- no value
  pub map-end : (xs : List A) (j : ℕ) → length xs ≤ j → map f (drop j xs) ≡ []
  map-end xs j h = ap (map f) (drop_of_length-le xs h)

  -- the values of xs are to be stored in l from `from` on; j of them are, which makes `out`
  pub record Mapping (xs : List A) (l : List B) (from : ℕ) (out : List B) (j : ℕ) : Type 0 where
    pub passed : j ≤ length xs
    pub storing : Storing (map f xs) l from (map f (drop j xs)) out (from + j)

  module _ {xs : List A} {l : List B} {from : ℕ} where
    pub mapping-none : Mapping xs l from l 0
    mapping-none = record { passed = zero-le; storing = rw (add-zero from) storing-none }

    module _ {out : List B} {j : ℕ} (m : Mapping xs l from out j) where
      pub mapping-more : (d : A) {at : ℕ} {v : B} → j < length xs → at ≡ from + j → v ≡ f (get_or xs j d) → Mapping xs l from (set out at v) (j + 1)
      mapping-more d {at} {v} h e ev =
          record {
            passed = omega arith;
            storing = rw (e, ev, ← add_assoc) (storing-one m.storing (f (get_or xs j d)) (map f (drop (j + 1) xs)) (map_next xs j d h));
          }

      pub mapping-done : length xs ≤ j → out ≡ sets l from (map f xs)
      mapping-done h = storing-done m.storing (map-end xs j h)
