-- What reading a part of a chunk answers (01, "Questions at the counter", "Reading"): the id, the header, a packed body, and the questions after the body's. The
-- codecs are written with these; the two calls for reading are defined by `Read` alone.
use Rattle.std.specs.Prelude.{ℕ, ◌+◌, Bool, List, leb, Option}
use Rattle.format.specs.Outcome.{Outcome, ok, check, ◌>>=◌}
use Rattle.format.specs.declared.Extent.{Extent}
use Rattle.format.specs.Packing.{width_at, packed_end}
use Rattle.format.specs.declared.encoding.Encoding.{Encoding}
use Rattle.format.specs.Encodings.{encoding_of, within, max_chunk_elements}
use Rattle.format.specs.Header.{unnamed, read_id}
use Rattle.format.specs.Read.{strict_checks}

-- ---- encodings by their numbers

-- "encoding 1 to 7? 2, at 0"
unfoldable pub encoding_named : ℕ → Outcome Encoding
encoding_named number = check (within 1 7 number) 2 0 >>= λ _. ok (encoding_of number)

-- "is the first byte there and 1 to 9? 1, at 0. Is it 1 to 7? 2, at 0. Are there two bytes? 3, at 0."
unfoldable pub peeked : List ℕ → Outcome Encoding
peeked s = read_id unnamed s >>= λ id. ok (encoding_of id)

-- ---- bodies

-- a width byte at a place and a packed body of `count` values after it: 10, 12, 13. Asked of more values than a chunk can have, it is 21
unfoldable pub packed_extent : List ℕ → ℕ → ℕ → Option ℕ → Outcome Extent
packed_extent s at count padded = do
  _ ← check (leb count max_chunk_elements) 21 0
  w ← width_at s at
  end ← packed_end s (at + 1) w count
  ok (record { end = end; padded = padded })

-- the questions after the body's: those of strict reading, then "column buffer long enough? 20, offset the length needed"
unfoldable pub settled : Bool → List ℕ → ℕ → ℕ → Outcome Extent → Outcome ℕ
settled strict s count room body = do
  b ← body
  _ ← strict_checks strict s b
  _ ← check (leb count room) 20 count
  ok count
