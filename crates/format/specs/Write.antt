-- Writing a chunk (01, "Questions at the counter", "Writing": "encoding 1 to 7? 2, at 0. At most 2^24 values? 21. For Dictionary: scratch of min(count,
-- 16,384)? 22; at most 16,384 distinct? 23. Output long enough? 20.").
use Rattle.std.specs.Prelude.{ℕ, not, List, ℤ, leb, length}
use Rattle.format.specs.Outcome.{Outcome, refused, ok, check, ◌>>=◌}
use Rattle.format.specs.Encodings.{encoding_of, within, max_chunk_elements}
use Rattle.format.specs.Answers.{stored_answer, buffer_after}
use Rattle.format.specs.Distinct.{too_many_distinct, scratch_check, collected}
use Rattle.format.specs.Chunk.{chunk_of}
use Rattle.format.specs.declared.encoding.Encoding.{Encoding}
use Rattle.format.specs.declared.encoding.Encoding.TheVariants.{Plain, Varint, BitPacked, FrameOfReference, RunLength, Dictionary, DeltaBinaryPacked}

-- "For Dictionary": `this` is asked, or done, for Dictionary, and `other` for every other encoding
abbrev pub for_dictionary {ℓ} : {A : Type ℓ} → A → A → Encoding → A
for_dictionary other this Plain = other
for_dictionary other this Varint = other
for_dictionary other this BitPacked = other
for_dictionary other this FrameOfReference = other
for_dictionary other this RunLength = other
for_dictionary other this Dictionary = this
for_dictionary other this DeltaBinaryPacked = other

-- The questions before the scratch is written: "encoding 1 to 7? 2, at 0. At most 2^24 values? 21. For Dictionary: scratch of min(count, 16,384)? 22"
-- They find the encoding with that number.
unfoldable pub write_checks : ℕ → List ℤ → ℕ → Outcome Encoding
write_checks number column room = do
  _ ← check (within 1 7 number) 2 0
  _ ← check (leb (length column) max_chunk_elements) 21 0
  _ ← for_dictionary (ok tt) (scratch_check column room) (encoding_of number)
  ok (encoding_of number)

-- The whole list, for a scratch of `room` places and an output of `space` bytes: the chunk. "at most 16,384 distinct? 23. Output long enough? 20",
-- offset the length needed.
unfoldable pub write_outcome : ℕ → List ℤ → ℕ → ℕ → Outcome (List ℕ)
write_outcome number column room space = do
  encoding ← write_checks number column room
  _ ← for_dictionary (ok tt) (check (not (too_many_distinct column)) 23 0) encoding
  _ ← check (leb (length (chunk_of encoding column)) space) 20 (length (chunk_of encoding column))
  ok (chunk_of encoding column)

-- THE ANSWER of writing the column in the encoding with that number: accepted, with the count of bytes
unfoldable pub write_answer : ℕ → List ℤ → ℕ → ℕ → Outcome ℕ
write_answer number column room space = stored_answer (write_outcome number column room space)

-- THE OUTPUT after that. "Accepted: .. in writing the chunk, fill the buffer's front; the rest is untouched."
unfoldable pub write_output : ℕ → List ℤ → ℕ → List ℕ → List ℕ
write_output number column room output = buffer_after (write_outcome number column room (length output)) output

-- THE SCRATCH after that. "after a Dictionary encode past refusal 22: the distinct values rising .., then old contents. Other calls leave it."
abbrev pub scratch_after_checks : Outcome Encoding → List ℤ → List ℤ → List ℤ
scratch_after_checks (refused number offset) column scratch = scratch
scratch_after_checks (ok encoding) column scratch = for_dictionary scratch (collected column scratch) encoding

unfoldable pub write_scratch : ℕ → List ℤ → List ℤ → List ℤ
write_scratch number column scratch = scratch_after_checks (write_checks number column (length scratch)) column scratch
