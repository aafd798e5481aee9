-- What the entries of a dictionary and its codes take (01, "entry total; first entry as a signed varint; gaps as varints; width byte; packed codes").
use Rattle.std.specs.Prelude.{ℕ, ◌+◌, cond, ◌&&◌, List, ℤ, Option, leb, length}
use Rattle.format.specs.Varint.{uvarint_len}
use Rattle.format.specs.Packing.{packed_len}
use Rattle.format.specs.Encodings.{max_chunk_elements, max_dictionary_cardinality}
use Rattle.format.specs.Dictionary.{code_width}
use Rattle.format.specs.Estimates.{entries_len, size_if}

-- the bytes of a body with these entries and `count` values
unfoldable pub body_len : List ℤ → ℕ → ℕ
body_len entries count = uvarint_len (length entries) + entries_len entries + 1 + packed_len count (code_width (length entries))

-- the same; 0 where there are more values, or more entries, than writing takes
unfoldable pub measured : List ℤ → ℕ → ℕ
measured entries count =
    cond (leb count max_chunk_elements && leb (length entries) max_dictionary_cardinality) (body_len entries count) 0

-- the same, which is none there
unfoldable pub measured_in : List ℤ → ℕ → Option ℕ
measured_in entries count = size_if (leb count max_chunk_elements && leb (length entries) max_dictionary_cardinality) (body_len entries count)
