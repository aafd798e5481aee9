-- What the parts of reading a Dictionary body say. No public contract cites this file.
use Rattle.std.specs.Prelude.{◌≡◌, ℕ, zero, suc, ◌+◌, ◌-◌, ◌≤◌, true, cond, List, [], ◌∷◌, ℤ, pos, ltb, eqb, length, get_or, Option, IsSome, ⊤, refl}
use Rattle.std.specs.Coded.{×_prop, Unit-prop}
use Rattle.std.proofs.Math.Bool.{Bool-set}
use Rattle.format.specs.Outcome.{Outcome, ok, check, ◌>>=◌}
use Rattle.format.specs.Keys.{wrapping_add, unzigzag}
use Rattle.format.specs.declared.Extent.{Extent}
use Rattle.format.specs.Varint.{uvarint_at, after_uvarints}
use Rattle.format.specs.Packing.{packed_values}
use Rattle.format.specs.Parts.{packed_extent}
use Rattle.format.specs.Dictionary.{all_below}
use Rattle.varint.specs.Finding.{found_in}
use Rattle.places.specs.Packed.{Inside}

-- the questions after the entries: 10, 12, 13, 18; asked of more values than a chunk can have, it is 21, as `packed_extent` is
unfoldable pub settled_codes : List ℕ → ℕ → ℕ → ℕ → Option ℕ → Outcome Extent
settled_codes s place count entries padded = do
  body ← packed_extent s place count padded
  _ ← check (all_below entries (packed_values s (place + 1) (get_or s place 0) count)) 18 place
  ok body

-- entry i, by the entry before it and its varint's value
unfoldable pub entry_at : ℕ → ℤ → ℕ → ℤ
entry_at i last value = cond (eqb i 0) (unzigzag value) (wrapping_add last (pos value))

-- the entries from i on, by the values of their varints
unfoldable pub entries_at : ℕ → ℤ → List ℕ → List ℤ
entries_at i last [] = []
entries_at i last (v ∷ vs) = entry_at i last v ∷ entries_at (suc i) (entry_at i last v) vs

-- the value of a code, where a table holds the entries from `done` on; of any other code what was there
unfoldable pub picked : ℕ → List ℤ → ℕ → ℤ → ℤ
picked done table code old = cond (ltb code done) old (cond (ltb (code - done) (length table)) (get_or table (code - done) (pos 0)) old)

-- the same for as many codes
unfoldable pub picked_all : ℕ → List ℤ → List ℕ → List ℤ → List ℤ
picked_all done table [] olds = []
picked_all done table (c ∷ cs) [] = []
picked_all done table (c ∷ cs) (old ∷ olds) = picked done table c old ∷ picked_all done table cs olds

pub picked_all-none : (done : ℕ) (table olds : List ℤ) → picked_all done table [] olds ≡ []
unfolding picked_all
picked_all-none done table olds = refl

-- ---- what filling is told

-- n varints in a row, none of which is refused
unfoldable pub AllRead : List ℕ → ℕ → ℕ → Type 0
AllRead s at zero = ⊤
AllRead s at (suc n) = IsSome (found_in s at) × AllRead s (uvarint_at s at).next n

-- which has one proof, so a struct may keep it
pub all_read-prop : (s : List ℕ) (at n : ℕ) → IsProp (AllRead s at n)
unfolding AllRead
all_read-prop s at zero = Unit-prop
all_read-prop s at (suc n) = ×_prop (Bool-set _ _) (all_read-prop s (uvarint_at s at).next n)

-- a body that was passed: the total and the entries are there, the entries are no more than the chunk has bytes, and the codes after them are all below
pub record ReadBody (s : List ℕ) (start count : ℕ) : Type 0 where
  pub total : IsSome (found_in s start)
  pub entries : (uvarint_at s start).value ≤ length s
  pub read : AllRead s (uvarint_at s start).next (uvarint_at s start).value
  pub codes : Inside s (after_uvarints s (uvarint_at s start).next (uvarint_at s start).value) count
  pub below : all_below (uvarint_at s start).value
      (packed_values s (after_uvarints s (uvarint_at s start).next (uvarint_at s start).value + 1)
      (get_or s (after_uvarints s (uvarint_at s start).next (uvarint_at s start).value) 0) count) ≡ true
