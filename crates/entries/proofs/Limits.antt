-- Within the limits of writing, what is measured is the body's length; and that is at most ten bytes for every varint, and eight for every code.
use mathlib.Core.Path.{◌≡◌}
use mathlib.Core.List.{List}
use Prim.Native.Nat.{ℕ, ◌+◌, ◌*◌, ◌≤◌, ◌<◌}
use native.Mathlib.Omega.{arith}
use lib.IntN.{ℤ}
use lib.ListN.{length}
use borrow.Author.Tests.{le-leb, lt-leb}
use Rattle.format.specs.Varint.{uvarint_len}
use Rattle.format.specs.Packing.{packed_len}
use Rattle.format.specs.Encodings.{max_chunk_elements, max_dictionary_cardinality}
use Rattle.format.specs.Dictionary.{code_width}
use Rattle.format.specs.Estimates.{entries_len}
use Rattle.format.proofs.Lengths.Limits.{entries_len-most, code_width-le}
use Rattle.format.proofs.Numbers.Packing.{packed_len-most}
use Rattle.format.proofs.Numbers.Widths.{uvarint_len_le}
use Rattle.entries.specs.Measured.{body_len, measured}

module _ (entries : List ℤ) (count : ℕ) where
  pub body_len-most : body_len entries count ≤ 11 + 10 * length entries + 8 * count
  unfolding body_len
  body_len-most =
      omega (
        arith,
        uvarint_len_le (length entries),
        entries_len-most entries,
        packed_len-most count (code_width (length entries)) (code_width-le (length entries)),
      )

  -- more values,
  pub measured-long : max_chunk_elements < count → measured entries count ≡ 0
  unfolding measured
  measured-long h = rw (lt-leb count max_chunk_elements h)

  module _ (few : count ≤ max_chunk_elements) where
    -- or more entries, than writing takes
    pub measured-many : max_dictionary_cardinality < length entries → measured entries count ≡ 0
    unfolding measured
    measured-many h = rw (le-leb count max_chunk_elements few, lt-leb (length entries) max_dictionary_cardinality h)

    module _ (held : length entries ≤ max_dictionary_cardinality) where
      -- neither: it is measured
      pub measured-within : measured entries count ≡ body_len entries count
      unfolding measured
      measured-within = rw (le-leb count max_chunk_elements few, le-leb (length entries) max_dictionary_cardinality held)

-- the parts are not long
pub codes_most : (count entries : ℕ) → packed_len count (code_width entries) ≤ 8 * count
codes_most count entries = packed_len-most count (code_width entries) (code_width-le entries)
