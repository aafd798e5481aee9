-- Reading a chunk that was written, strict or not, named by its encoding or not: every question is answered with yes, and the values are the column's. The header
-- and the body are read where they occur (Header, Body); no varint that we write is padded, and the chunk ends with its body, so strict reading passes too.
use mathlib.Core.Path.{◌≡◌, refl, sym, ap, ◌∙◌}
use mathlib.Core.Bool.{Bool, true, false}
use Prim.Native.Nat.{ℕ, ◌+◌, ◌≤◌}
use native.Mathlib.Omega.{arith}
use mathlib.Core.List.{List, [], ◌++◌, append_assoc, append-nil}
use lib.IntN.{ℤ}
use lib.ListN.{length, take, drop, length-append}
use lib.Seq.{take-append_seam}
use borrow.Author.Tests.{le-leb, eq-eqb}
use Rattle.format.specs.Outcome.{ok}
use Rattle.format.specs.Encodings.{id_of, max_chunk_elements}
use Rattle.format.specs.Answers.{stored}
use Rattle.format.specs.Header.{Naming, header_bytes, header_len}
use Rattle.format.specs.Chunk.{body_of, chunk_of}
use Rattle.format.specs.Read.{Validated, validate, strict_checks, read_outcome, values_of, read_answer, read_column}
use Rattle.format.specs.Keys.{Keys}
use Rattle.format.specs.ThirdDemand.{NamedFor}
use Rattle.format.specs.declared.encoding.Encoding.{Encoding}
use Rattle.format.proofs.Codecs.Header.{length-header_bytes, read_header-back, header_written}
use Rattle.format.proofs.Codecs.Encodings.{encoding_of-id}
use Rattle.format.proofs.Numbers.Columns.{keys-all}
use Rattle.format.proofs.Numbers.Occurs.{Occurs, occurs-middle, occurs-at}
use Rattle.format.proofs.Codecs.Body.{body-validate, body-values}
use Rattle.std.specs.Prelude.{None}

-- ---- the chunk, with whatever bytes after it

-- what reading a column's chunk finds
abbrev pub chunk_written : Encoding → List ℤ → Validated
chunk_written e column = record { header = header_written (id_of e) (length column); body = record { end = length (chunk_of e column); padded = None } }

module _ (e : Encoding) (column : List ℤ) (rest : List ℕ) where
  -- a chunk is a header and a body
  chunk-parts : chunk_of e column ++ rest ≡ header_bytes (id_of e) (length column) ++ (body_of e column ++ rest)
  unfolding chunk_of
  chunk-parts = append_assoc (header_bytes (id_of e) (length column)) (body_of e column) rest

  -- where its body occurs
  chunk-body : Occurs (header_bytes (id_of e) (length column) ++ (body_of e column ++ rest)) (header_len (length column)) (body_of e column)
  chunk-body = occurs-at (length-header_bytes (id_of e) (length column)) (occurs-middle (header_bytes (id_of e) (length column)) (body_of e column) rest)

  -- its length
  chunk-length : header_len (length column) + length (body_of e column) ≡ length (chunk_of e column)
  unfolding chunk_of
  chunk-length = omega (arith, length-header_bytes (id_of e) (length column), length-append (header_bytes (id_of e) (length column)) (body_of e column))

module _ (e : Encoding) {naming : Naming} (column : List ℤ) (rest : List ℕ) (ks : Keys column) (few : length column ≤ max_chunk_elements) (r : NamedFor e naming) where
  -- every question up to the body's end is answered with yes,
  pub validate-back : validate naming (chunk_of e column ++ rest) ≡ ok (chunk_written e column)
  unfolding validate
  validate-back =
      rw (
        chunk-parts e column rest,
        read_header-back e (length column) (body_of e column ++ rest) naming r few,
        encoding_of-id e,
        body-validate (keys-all column ks) few e (chunk-body e column rest) None,
        chunk-length e column rest,
      )

  -- and the values are the column's
  pub values-back : values_of (chunk_of e column ++ rest) (chunk_written e column) ≡ column
  unfolding values_of
  values-back = rw (chunk-parts e column rest, encoding_of-id e) (body-values (keys-all column ks) few e (chunk-body e column rest))

  -- reading that is not strict takes the chunk, whatever comes after it
  pub read_outcome-lenient : (room : ℕ) → length column ≤ room → read_outcome false naming (chunk_of e column ++ rest) room ≡ ok (chunk_written e column)
  unfolding read_outcome strict_checks
  read_outcome-lenient room h = rw (validate-back, le-leb (length column) room h)

-- ---- the chunk alone

-- strict reading's own questions
strict-chunk : (strict : Bool) (s : List ℕ) → strict_checks strict s (record { end = length s; padded = None }) ≡ ok tt
unfolding strict_checks
strict-chunk true s = rw (eq-eqb (length s) (length s) refl)
strict-chunk false s = refl

module _ (e : Encoding) (strict : Bool) {naming : Naming} (column : List ℤ) (ks : Keys column) (few : length column ≤ max_chunk_elements) (r : NamedFor e naming) where
  -- every question is answered with yes
  pub read_outcome-back : (room : ℕ) → length column ≤ room → read_outcome strict naming (chunk_of e column) room ≡ ok (chunk_written e column)
  unfolding read_outcome
  read_outcome-back room h =
      let all : validate naming (chunk_of e column) ≡ ok (chunk_written e column) = ap (validate naming) (sym (append-nil (chunk_of e column))) ∙ validate-back e column [] ks few r in
      rw (all, strict-chunk strict (chunk_of e column), le-leb (length column) room h)

  -- THE ANSWER: accepted, with the column's count
  pub read_answer-back : (room : ℕ) → length column ≤ room → read_answer strict naming (chunk_of e column) room ≡ ok (length column)
  unfolding read_answer
  read_answer-back room h = rw (read_outcome-back room h)

  -- THE COLUMN BUFFER: the column at its front, the rest untouched
  pub read_column-back : (buffer : List ℤ) → length column ≤ length buffer → read_column strict naming (chunk_of e column) buffer ≡ column ++ drop (length column) buffer
  unfolding read_column stored
  read_column-back buffer h =
      let same : values_of (chunk_of e column) (chunk_written e column) ≡ column =
      ap (λ (s : List ℕ). values_of s (chunk_written e column)) (sym (append-nil (chunk_of e column))) ∙ values-back e column [] ks few r in
      rw (read_outcome-back (length buffer) h, same)

  -- its front
  pub read_column-front : (buffer : List ℤ) → length column ≤ length buffer → take (length column) (read_column strict naming (chunk_of e column) buffer) ≡ column
  read_column-front buffer h = rw (read_column-back buffer h) (take-append_seam column (drop (length column) buffer))
