-- The entries, one after the other: the varint of each number that a walk over them gives.
use mathlib.Core.Path.{◌≡◌, ap}
use mathlib.Core.List.{List, [], ◌∷◌}
use Prim.Native.Nat.{ℕ, ◌+◌, ◌≤◌}
use lib.IntN.{ℤ}
use Rattle.std.specs.Prelude.{Option, Some, IsSome}
use lib.ListN.{length}
use lib.Seq.{sets}
use Rattle.format.specs.Dictionary.{entry_bytes}
use Rattle.format.proofs.Numbers.Stores.{Storing, storing-none, storing-end, storing-done}
use Rattle.places.proofs.Placing.{PutUvarint, storing_uvarint, storing_uvarint_some}
use Rattle.entries.specs.Numbers.{numbers}
use Rattle.entries.specs.Gaps.{to_come}
use Rattle.entries.specs.declared.gap.Gaps.{Gaps}
use Rattle.entries.proofs.Walking.{bytes_of, bytes-numbers}

module _ (entries : List ℤ) (output : List ℕ) (from : ℕ) (g : Gaps) where
  -- all are to come
  pub putting_begun : to_come g ≡ numbers entries → Storing (entry_bytes entries) output from (bytes_of (to_come g)) output from
  putting_begun e = rw (e, bytes-numbers entries) storing-none

  module _ (out : List ℕ) (at : ℕ) (stores : Storing (entry_bytes entries) output from (bytes_of (to_come g)) out at) where
    -- a varint more
    module _ (rest : Gaps) {n : ℕ} {next : List ℕ} {end : Option ℕ} (room : from + length (entry_bytes entries) ≤ length output) (e : to_come g ≡ n ∷ to_come rest)
        (put : PutUvarint n out at next end)
      where
        pub putting_some : IsSome end
        unfolding bytes_of
        putting_some = storing_uvarint_some stores room n (bytes_of (to_come rest)) (ap bytes_of e) put

        pub putting_more : {place : ℕ} → end ≡ Some place → Storing (entry_bytes entries) output from (bytes_of (to_come rest)) next place
        unfolding bytes_of
        putting_more found = storing_uvarint stores room n (bytes_of (to_come rest)) (ap bytes_of e) put found

    -- none is left
    pub putting_done : to_come g ≡ [] → (at ≡ from + length (entry_bytes entries)) × (out ≡ sets output from (entry_bytes entries))
    unfolding bytes_of
    putting_done e = let none = ap bytes_of e in (storing-end stores none, storing-done stores none)
