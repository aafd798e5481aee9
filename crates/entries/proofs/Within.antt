-- Within the limits of writing a body is measured, and past one of them it is not.
use mathlib.Core.Path.{◌≡◌, refl, sym}
use mathlib.Core.Bool.{Bool, true, false, cond, ◌&&◌}
use mathlib.Core.List.{List}
use Prim.Native.Nat.{ℕ, ◌+◌, ◌≤◌, ◌<◌}
use lib.Dec.{leb}
use lib.IntN.{ℤ}
use lib.ListN.{length}
use borrow.Author.Tests.{le-leb, lt-leb}
use Rattle.std.specs.Prelude.{Some, None}
use Rattle.std.specs.Option.{unwrap_or}
use Rattle.format.specs.Varint.{uvarint_len}
use Rattle.format.specs.Packing.{packed_len}
use Rattle.format.specs.Encodings.{max_chunk_elements, max_dictionary_cardinality}
use Rattle.format.specs.Dictionary.{code_width}
use Rattle.format.specs.Estimates.{entries_len, size_if}
use Rattle.entries.specs.Measured.{body_len, measured, measured_in}

module _ (entries : List ℤ) (count : ℕ) where
  -- more values, or more entries, than writing takes
  pub measured_long : max_chunk_elements < count → None ≡ measured_in entries count
  unfolding measured_in
  measured_long h = rw (lt-leb count max_chunk_elements h)

  module _ (few : count ≤ max_chunk_elements) where
    pub measured_many : max_dictionary_cardinality < length entries → None ≡ measured_in entries count
    unfolding measured_in
    measured_many h = rw (le-leb count max_chunk_elements few, lt-leb (length entries) max_dictionary_cardinality h)

    module _ (held : length entries ≤ max_dictionary_cardinality) where
      -- neither: it is measured
      pub measured-within : measured_in entries count ≡ Some (body_len entries count)
      unfolding measured_in
      measured-within = rw (le-leb count max_chunk_elements few, le-leb (length entries) max_dictionary_cardinality held)

      -- by its parts
      pub measured_parts : Some (uvarint_len (length entries) + entries_len entries + 1 + packed_len count (code_width (length entries))) ≡ measured_in entries count
      unfolding body_len
      measured_parts = sym measured-within

  -- what is not measured is 0
  pub measured_or : unwrap_or (measured_in entries count) 0 ≡ measured entries count
  unfolding measured measured_in
  measured_or = go (leb count max_chunk_elements && leb (length entries) max_dictionary_cardinality)
    where
      go : (t : Bool) → unwrap_or (size_if t (body_len entries count)) 0 ≡ cond t (body_len entries count) 0
      go true = refl
      go false = refl
