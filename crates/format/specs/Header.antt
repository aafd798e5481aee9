-- The chunk's header (01, "The chunk": "Header: id, version 01, count varint"; "Questions at the counter", "Reading", its first paragraph).
use Rattle.std.specs.Prelude.{ℕ, ◌+◌, ◌&&◌, List, ◌∷◌, leb, ltb, eqb, length, get_or, None}
use Rattle.format.specs.Outcome.{Outcome, ok, check, ◌>>=◌}
use Rattle.format.specs.Varint.{uvarint_len, uvarint_bytes, read_uvarint, first_padded}
use Rattle.format.specs.declared.Header.{Header}
use Rattle.format.specs.Encodings.{within, max_chunk_elements}

-- ---- writing

-- "Header: id, version 01, count varint."
unfoldable pub header_bytes : ℕ → ℕ → List ℕ
header_bytes id count = id ∷ 0x01 ∷ uvarint_bytes count

-- its length
unfoldable pub header_len : ℕ → ℕ
header_len count = 2 + uvarint_len count

-- ---- reading

-- a reading names its encoding, by any number, or does not
pub data Naming : Type 0 where
  unnamed : Naming
  named : ℕ → Naming

-- The id, by the questions before the version.
-- "is the first byte there and 1 to 9? 1, at 0. Is it 1 to 7? 2, at 0. Are there two bytes? 3, at 0."
-- "A named reading puts instead: is the name 1 to 7? 2; two bytes? 3; id 1 to 9? 1; id the one named? 4, at 0."
unfoldable pub read_id : Naming → List ℕ → Outcome ℕ
read_id unnamed s = do
  _ ← check (ltb 0 (length s) && within 1 9 (get_or s 0 0)) 1 0
  _ ← check (within 1 7 (get_or s 0 0)) 2 0
  _ ← check (leb 2 (length s)) 3 0
  ok (get_or s 0 0)
read_id (named name) s = do
  _ ← check (within 1 7 name) 2 0
  _ ← check (leb 2 (length s)) 3 0
  _ ← check (within 1 9 (get_or s 0 0)) 1 0
  _ ← check (eqb (get_or s 0 0) name) 4 0
  ok (get_or s 0 0)

-- What a header says: the id, the count, where the body starts; and the first padded varint so far.
-- "Then, both: version 1? 5, at 1." The count's varint. "Count at most 2^24? 8, at 2."
unfoldable pub read_header : Naming → List ℕ → Outcome Header
read_header naming s = do
  id ← read_id naming s
  _ ← check (eqb (get_or s 1 0) 1) 5 1
  count ← read_uvarint s 2
  _ ← check (leb count.value max_chunk_elements) 8 2
  ok (record { id = id; count = count.value; start = count.next; padded = first_padded None 2 count.unpadded })
