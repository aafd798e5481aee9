-- The chunk's header: what was written is read back, by a reading that names the encoding or does not. An id from 1 to 7 and a count of up to 2^24 pass every
-- question up to 8, and the count's varint occurs at 2.
use mathlib.Core.Path.{◌≡◌, refl}
use mathlib.Core.List.{List, ◌++◌}
use Prim.Native.Nat.{ℕ, suc, ◌≤◌}
use native.Mathlib.Omega.{arith}
use lib.ListN.{length}
use borrow.Author.Tests.{lt-ltb, le-leb, eq-eqb}
use Rattle.format.specs.Outcome.{ok}
use Rattle.format.specs.Varint.{uvarint_bytes, read_uvarint}
use Rattle.format.specs.Encodings.{id_of, max_chunk_elements}
use Rattle.format.specs.Header.{header_bytes, header_len, Naming, unnamed, named, read_id, read_header}
use Rattle.format.specs.declared.Header.{Header}
use Rattle.format.specs.ThirdDemand.{NamedFor, unnamed-reading, named-reading}
use Rattle.format.specs.declared.encoding.Encoding.{Encoding}
use Rattle.format.proofs.Numbers.Uvarints.{length-uvarint_bytes, uvarint_written, read_uvarint-back}
use Rattle.format.proofs.Codecs.Encodings.{id_of-low, id_of-high}
use Rattle.std.specs.Prelude.{None}

-- a header has its length
pub length-header_bytes : (id count : ℕ) → length (header_bytes id count) ≡ header_len count
unfolding header_bytes header_len
length-header_bytes id count = omega (arith, length-uvarint_bytes count)

-- what a header of that id and count says
abbrev pub header_written : ℕ → ℕ → Header
header_written id count = record { id = id; count = count; start = header_len count; padded = None }

module _ (id count : ℕ) (rest : List ℕ) (low : 1 ≤ id) (high : id ≤ 7) where
  -- the id is read, unnamed
  id-unnamed : read_id unnamed (header_bytes id count ++ rest) ≡ ok id
  unfolding read_id header_bytes
  id-unnamed =
      let n : ℕ = length (uvarint_bytes count ++ rest) in
      rw (lt-ltb 0 (suc (suc n)) (omega arith), le-leb 1 id low, le-leb id 9 (omega arith), le-leb id 7 high, le-leb 2 (suc (suc n)) (omega arith))

  -- and named by it
  id-named : read_id (named id) (header_bytes id count ++ rest) ≡ ok id
  unfolding read_id header_bytes
  id-named =
      let n : ℕ = length (uvarint_bytes count ++ rest) in
      rw (le-leb 1 id low, le-leb id 7 high, le-leb 2 (suc (suc n)) (omega arith), le-leb id 9 (omega arith), eq-eqb id id refl)

  -- the rest of the header, however the id was read
  header-with :
      (naming : Naming) → read_id naming (header_bytes id count ++ rest) ≡ ok id → count ≤ max_chunk_elements
      → read_header naming (header_bytes id count ++ rest) ≡ ok (header_written id count)
  unfolding read_header header_bytes header_len
  header-with naming e h =
      let r : read_uvarint (header_bytes id count ++ rest) 2 ≡ ok (uvarint_written 2 count) = read_uvarint-back count (omega arith) (record { rest = rest; here = refl }) in
      rw (e, r, le-leb count max_chunk_elements h, length-uvarint_bytes count)

-- READ BACK: a header that was written, by a reading that is named by that encoding or not
pub read_header-back :
    (e : Encoding) (count : ℕ) (rest : List ℕ) (naming : Naming) → NamedFor e naming → count ≤ max_chunk_elements
    → read_header naming (header_bytes (id_of e) count ++ rest) ≡ ok (header_written (id_of e) count)
read_header-back e count rest naming unnamed-reading h =
    header-with (id_of e) count rest (id_of-low e) (id_of-high e) unnamed (id-unnamed (id_of e) count rest (id_of-low e) (id_of-high e)) h
read_header-back e count rest naming named-reading h =
    header-with (id_of e) count rest (id_of-low e) (id_of-high e) (named (id_of e)) (id-named (id_of e) count rest (id_of-low e) (id_of-high e)) h
