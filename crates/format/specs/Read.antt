-- Reading a chunk (01, "Questions at the counter": "Reading", and "Strict reading").
use Rattle.std.specs.Prelude.{ℕ, Bool, true, false, List, ℤ, leb, eqb, length, Option, Some, None}
use Rattle.format.specs.Outcome.{Outcome, refused, ok, check, ◌>>=◌}
use Rattle.format.specs.declared.Extent.{Extent}
use Rattle.format.specs.Encodings.{encoding_of}
use Rattle.format.specs.Answers.{buffer_after}
use Rattle.format.specs.Header.{Naming, read_header}
use Rattle.format.specs.declared.Header.{Header}
use Rattle.format.specs.Chunk.{validate_body, body_values}

-- what the questions up to the body's end find: the header, and the body's extent
pub record Validated : Type 0 where
  pub header : Header
  pub body : Extent

-- every question but those of strict reading and 20
unfoldable pub validate : Naming → List ℕ → Outcome Validated
validate naming s = do
  h ← read_header naming s
  b ← validate_body (encoding_of h.id) s h.start h.count h.padded
  ok (record { header = h; body = b })

-- "does every varint read end on a nonzero byte, or have one byte? 25, its start."
abbrev pub no_padding : Option ℕ → Outcome (Unit {0})
no_padding None = ok tt
no_padding (Some start) = refused 25 start

-- "Strict reading, named or not, puts after all but 20": 25, then "Does the chunk end with its body? 26, first byte over."
unfoldable pub strict_checks : Bool → List ℕ → Extent → Outcome (Unit {0})
strict_checks false s b = ok tt
strict_checks true s b = do
  _ ← no_padding b.padded
  check (eqb b.end (length s)) 26 b.end

-- The whole list, for a column buffer of `room` places. "Last: column buffer long enough? 20, offset the length needed."
unfoldable pub read_outcome : Bool → Naming → List ℕ → ℕ → Outcome Validated
read_outcome strict naming s room = do
  c ← validate naming s
  _ ← strict_checks strict s c.body
  _ ← check (leb c.header.count room) 20 c.header.count
  ok c

-- the values of a chunk that was read
unfoldable pub values_of : List ℕ → Validated → List ℤ
values_of s c = body_values (encoding_of c.header.id) s c.header.start c.header.count

-- THE ANSWER of reading the chunk s into a column buffer of `room` places: accepted, with the count of values
unfoldable pub read_answer : Bool → Naming → List ℕ → ℕ → Outcome ℕ
read_answer strict naming s room = read_outcome strict naming s room >>= λ c. ok c.header.count

-- THE COLUMN BUFFER after that. "Accepted: the values .. fill the buffer's front; the rest is untouched."
unfoldable pub read_column : Bool → Naming → List ℕ → List ℤ → List ℤ
read_column strict naming s column = buffer_after (read_outcome strict naming s (length column) >>= λ c. ok (values_of s c)) column
