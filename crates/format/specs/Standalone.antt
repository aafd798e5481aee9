-- The calls on numbers and bytes alone (01, "Questions at the counter", last paragraph): "Packing alone: 21, 12, 20; unpacking alone: 21, 12, 13, 20; packed
-- length alone: 21, 12. A varint alone: read from a given place, past the end or not, 6, 7; written, 20. Offsets of 21 to 24 are 0."
use Rattle.std.specs.Prelude.{ℕ, List, ℤ, leb, length}
use Rattle.format.specs.Outcome.{Outcome, ok, check, ◌>>=◌}
use Rattle.format.specs.Keys.{zigzag, unzigzag}
use Rattle.format.specs.Varint.{uvarint_len, uvarint_bytes, read_uvarint}
use Rattle.format.specs.Packing.{packed_len, packed, unpacked, packed_end}
use Rattle.format.specs.declared.Read.{Read}
use Rattle.format.specs.Encodings.{max_chunk_elements}
use Rattle.format.specs.Answers.{stored_answer, buffer_after}

-- ---- packing

-- "packed length alone: 21, 12": accepted, with the length
unfoldable pub packed_len_answer : ℕ → ℕ → Outcome ℕ
packed_len_answer count w = do
  _ ← check (leb count max_chunk_elements) 21 0
  _ ← check (leb w 64) 12 0
  ok (packed_len count w)

-- "Packing alone: 21, 12, 20": the bytes, for an output of `space` bytes
unfoldable pub pack_outcome : List ℕ → ℕ → ℕ → Outcome (List ℕ)
pack_outcome values w space = do
  _ ← check (leb (length values) max_chunk_elements) 21 0
  _ ← check (leb w 64) 12 0
  _ ← check (leb (packed_len (length values) w) space) 20 (packed_len (length values) w)
  ok (packed w values)

-- THE ANSWER of packing, and THE OUTPUT after it
unfoldable pub pack_answer : List ℕ → ℕ → ℕ → Outcome ℕ
pack_answer values w space = stored_answer (pack_outcome values w space)

unfoldable pub pack_output : List ℕ → ℕ → List ℕ → List ℕ
pack_output values w output = buffer_after (pack_outcome values w (length output)) output

-- "unpacking alone: 21, 12, 13, 20": the values, for a buffer of `room` places. The packed body is all of s
unfoldable pub unpack_outcome : List ℕ → ℕ → ℕ → ℕ → Outcome (List ℕ)
unpack_outcome s w count room = do
  _ ← check (leb count max_chunk_elements) 21 0
  _ ← packed_end s 0 w count
  _ ← check (leb count room) 20 count
  ok (unpacked w count s)

-- THE ANSWER of unpacking, and THE VALUES' BUFFER after it
unfoldable pub unpack_answer : List ℕ → ℕ → ℕ → ℕ → Outcome ℕ
unpack_answer s w count room = stored_answer (unpack_outcome s w count room)

unfoldable pub unpack_buffer : List ℕ → ℕ → ℕ → List ℕ → List ℕ
unpack_buffer s w count buffer = buffer_after (unpack_outcome s w count (length buffer)) buffer

-- ---- varints

-- a signed varint that was read
abbrev pub Varint : Type 0
Varint = Read ℤ

-- "A varint alone: read from a given place, past the end or not, 6, 7" is `read_uvarint`; and of a signed one
unfoldable pub read_varint : List ℕ → ℕ → Outcome Varint
read_varint s at = do
  v ← read_uvarint s at
  ok (record { value = unzigzag v.value; next = v.next; unpadded = v.unpadded })

-- "written, 20", offset the length needed: the bytes, for an output of `space` bytes
unfoldable pub uvarint_write_outcome : ℕ → ℕ → Outcome (List ℕ)
uvarint_write_outcome x space = do
  _ ← check (leb (uvarint_len x) space) 20 (uvarint_len x)
  ok (uvarint_bytes x)

-- THE ANSWER of writing a varint, and THE OUTPUT after it
unfoldable pub uvarint_write_answer : ℕ → ℕ → Outcome ℕ
uvarint_write_answer x space = stored_answer (uvarint_write_outcome x space)

unfoldable pub uvarint_write_output : ℕ → List ℕ → List ℕ
uvarint_write_output x output = buffer_after (uvarint_write_outcome x (length output)) output

-- and of a signed one
unfoldable pub varint_write_answer : ℤ → ℕ → Outcome ℕ
varint_write_answer v space = uvarint_write_answer (zigzag v) space

unfoldable pub varint_write_output : ℤ → List ℕ → List ℕ
varint_write_output v output = uvarint_write_output (zigzag v) output
