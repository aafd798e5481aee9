-- Every refusal of 01, its number and its offset, on a small input that meets it: `read-refusals`, `other-refusals`. So a change of a number or an offset in specs/ is refused by the
-- checker. Each line has its question of 01 above it and is proved by computing, but for the lines on long columns, which are laws.
use mathlib.Core.Path.{◌≡◌, refl}
use mathlib.Core.Bool.{true, false}
use mathlib.Core.List.{List, [], ◌∷◌}
use Prim.Native.Nat.{ℕ, ◌+◌, ◌^◌, ◌≤◌, ◌<◌}
use lib.IntN.{ℤ, pos}
use lib.ListN.{length}
use borrow.Author.Tests.{le-leb, lt-leb}
use Rattle.format.specs.Encodings.{encodings, encoding_of, max_chunk_elements}
use Rattle.format.specs.Header.{unnamed, named}
use Rattle.format.specs.Distinct.{scratch_needed, scratch_check, too_many_distinct}
use Rattle.format.specs.Read.{read_answer}
use Rattle.format.specs.Write.{write_checks, write_outcome, write_answer}
use Rattle.format.specs.Varint.{read_uvarint}
use Rattle.format.specs.Standalone.{packed_len_answer, pack_outcome, pack_answer, unpack_answer, read_varint, uvarint_write_answer, varint_write_answer}
use Rattle.format.specs.Statistics.{analysis_checks, stats_answer, refused_stats}
use Rattle.format.specs.Estimates.{estimates_answer, refused_estimates}
use Rattle.format.specs.Plan.{plan_checks, plan_answer, refused_plan}
use Rattle.format.proofs.Samples.Computing.{reading-computes, planning-computes, standalone-computes}
use Rattle.format.proofs.Samples.Stars.{fives, nine_ff}
use Rattle.format.specs.Outcome.{Outcome, refused, ok}

-- reading, unnamed and not strict, into no places at all: every question but 20 comes first
abbrev read : List ℕ → Outcome ℕ
read s = read_answer false unnamed s 0

-- the same, named
abbrev read_named : ℕ → List ℕ → Outcome ℕ
read_named name s = read_answer false (named name) s 0

pub record ReadRefusals : Type 0 where
  -- "is the first byte there and 1 to 9? 1, at 0."
  pub no_byte : read [] ≡ refused 1 0
  pub id-0 : read (0x00 ∷ 0x01 ∷ 0x00 ∷ []) ≡ refused 1 0
  pub id-10 : read (0x0a ∷ 0x01 ∷ 0x00 ∷ []) ≡ refused 1 0
  -- "Is it 1 to 7? 2, at 0."
  pub id-8 : read (0x08 ∷ []) ≡ refused 2 0
  pub id-9 : read (0x09 ∷ 0x01 ∷ 0x00 ∷ []) ≡ refused 2 0
  -- "Are there two bytes? 3, at 0."
  pub one_byte : read (0x07 ∷ []) ≡ refused 3 0
  -- "A named reading puts instead: is the name 1 to 7? 2; two bytes? 3; id 1 to 9? 1; id the one named? 4, at 0."
  pub name-0 : read_named 0 [] ≡ refused 2 0
  pub name-8 : read_named 8 (0x08 ∷ []) ≡ refused 2 0
  pub named-short : read_named 7 (0x00 ∷ []) ≡ refused 3 0
  pub named-id-0 : read_named 1 (0x00 ∷ 0x01 ∷ []) ≡ refused 1 0
  pub named-id-10 : read_named 1 (0x0a ∷ 0x01 ∷ []) ≡ refused 1 0
  pub named-id-9 : read_named 3 (0x09 ∷ 0x02 ∷ []) ≡ refused 4 0
  pub named_other : read_named 3 (0x04 ∷ 0x02 ∷ []) ≡ refused 4 0
  -- "Then, both: version 1? 5, at 1."
  pub version : read (0x01 ∷ 0x02 ∷ []) ≡ refused 5 1
  pub named-version : read_named 1 (0x01 ∷ 0x00 ∷ []) ≡ refused 5 1
  -- "In any varint: next byte there? 6; is it no eleventh byte? 7; both at the varint's start."
  pub count_cut : read (0x01 ∷ 0x01 ∷ 0x80 ∷ []) ≡ refused 6 2
  pub count-ten : read (0x01 ∷ 0x01 ∷ nine_ff (0xff ∷ [])) ≡ refused 6 2
  pub count-eleven : read (0x01 ∷ 0x01 ∷ nine_ff (0xff ∷ 0x00 ∷ [])) ≡ refused 7 2
  pub value-cut : read (0x02 ∷ 0x01 ∷ 0x02 ∷ 0x0a ∷ 0x80 ∷ []) ≡ refused 6 4
  -- "Count at most 2^24? 8, at 2."
  pub count-over : read (0x03 ∷ 0x01 ∷ 0x81 ∷ 0x80 ∷ 0x80 ∷ 0x08 ∷ []) ≡ refused 8 2
  -- "eight bytes a value left? 9, body start."
  pub plain-cut : read (0x01 ∷ 0x01 ∷ 0x01 ∷ 1 ∷ 2 ∷ 3 ∷ 4 ∷ 5 ∷ 6 ∷ 7 ∷ []) ≡ refused 9 3
  -- "Width byte there? 10, its place."
  pub no-width : read (0x03 ∷ 0x01 ∷ 0x00 ∷ []) ≡ refused 10 3
  pub no-code-width : read (0x06 ∷ 0x01 ∷ 0x00 ∷ 0x00 ∷ []) ≡ refused 10 4
  pub no-block-width : read (0x07 ∷ 0x01 ∷ 0x02 ∷ 0x0a ∷ 0x80 ∷ 0x01 ∷ 0x02 ∷ []) ≡ refused 10 7
  -- "FrameOfReference's nine bytes there? 11, after header."
  pub frame-cut : read (0x04 ∷ 0x01 ∷ 0x00 ∷ 1 ∷ 2 ∷ 3 ∷ 4 ∷ 5 ∷ 6 ∷ 7 ∷ 8 ∷ []) ≡ refused 11 3
  -- "Width at most 64? 12, at 0."
  pub frame-wide : read (0x04 ∷ 0x01 ∷ 0x00 ∷ 1 ∷ 2 ∷ 3 ∷ 4 ∷ 5 ∷ 6 ∷ 7 ∷ 8 ∷ 0x41 ∷ []) ≡ refused 12 0
  pub block-wide : read (0x07 ∷ 0x01 ∷ 0x02 ∷ 0x0a ∷ 0x80 ∷ 0x01 ∷ 0x02 ∷ 0x41 ∷ []) ≡ refused 12 0
  -- "Packed bytes there? 13, offset the number of bytes from the packed body's start to the end."
  pub packed-cut : read (0x03 ∷ 0x01 ∷ 0x03 ∷ 0x08 ∷ 0xaa ∷ 0xbb ∷ []) ≡ refused 13 2
  pub frame-packed-cut : read (0x04 ∷ 0x01 ∷ 0x02 ∷ 1 ∷ 2 ∷ 3 ∷ 4 ∷ 5 ∷ 6 ∷ 7 ∷ 8 ∷ 0x08 ∷ 0xaa ∷ []) ≡ refused 13 1
  pub codes-cut : read (0x06 ∷ 0x01 ∷ 0x02 ∷ 0x01 ∷ 0x0a ∷ 0x08 ∷ 0x00 ∷ []) ≡ refused 13 1
  pub block-cut : read (0x07 ∷ 0x01 ∷ 0x03 ∷ 0x0a ∷ 0x80 ∷ 0x01 ∷ 0x02 ∷ 0x10 ∷ 1 ∷ 2 ∷ 3 ∷ []) ≡ refused 13 3
  -- in a second block, one delta to a block
  pub second-block-cut : read (0x07 ∷ 0x01 ∷ 0x03 ∷ 0x0a ∷ 0x01 ∷ 0x02 ∷ 0x08 ∷ 1 ∷ 0x02 ∷ 0x10 ∷ 1 ∷ []) ≡ refused 13 1
  -- "Runs at most count? 14; length at most what is left? 15; both just after that varint."
  pub runs-over : read (0x05 ∷ 0x01 ∷ 0x01 ∷ 0x02 ∷ []) ≡ refused 14 4
  pub run-over : read (0x05 ∷ 0x01 ∷ 0x02 ∷ 0x02 ∷ 0x0a ∷ 0x01 ∷ 0x0c ∷ 0x02 ∷ []) ≡ refused 15 8
  -- "Lengths sum to count? 16, at 0."
  pub runs-short : read (0x05 ∷ 0x01 ∷ 0x02 ∷ 0x01 ∷ 0x0a ∷ 0x01 ∷ []) ≡ refused 16 0
  pub no-runs : read (0x05 ∷ 0x01 ∷ 0x01 ∷ 0x00 ∷ []) ≡ refused 16 0
  -- "Entries at most the bytes left? 17, just after."
  pub entries_over : read (0x06 ∷ 0x01 ∷ 0x00 ∷ 0x02 ∷ 0x00 ∷ []) ≡ refused 17 4
  pub entries-equal : read (0x06 ∷ 0x01 ∷ 0x00 ∷ 0x01 ∷ 0x0a ∷ []) ≡ refused 10 5
  -- "Each code below entries? 18, the width byte's place."
  pub code-over : read (0x06 ∷ 0x01 ∷ 0x02 ∷ 0x01 ∷ 0x0a ∷ 0x01 ∷ 0x02 ∷ []) ≡ refused 18 5
  -- the packed bytes, and their width, are asked before the codes
  pub code-cut : read (0x06 ∷ 0x01 ∷ 0x02 ∷ 0x01 ∷ 0x0a ∷ 0x08 ∷ 0x01 ∷ []) ≡ refused 13 1
  pub code-wide : read (0x06 ∷ 0x01 ∷ 0x01 ∷ 0x01 ∷ 0x0a ∷ 0x41 ∷ 0x01 ∷ []) ≡ refused 12 0
  pub no-entries : read (0x06 ∷ 0x01 ∷ 0x01 ∷ 0x00 ∷ 0x00 ∷ []) ≡ refused 18 4
  -- "Block size 1 to 2^20? 19, just after."
  pub block-size-0 : read (0x07 ∷ 0x01 ∷ 0x01 ∷ 0x0a ∷ 0x00 ∷ []) ≡ refused 19 5
  pub block-size-over : read (0x07 ∷ 0x01 ∷ 0x01 ∷ 0x0a ∷ 0x81 ∷ 0x80 ∷ 0x40 ∷ []) ≡ refused 19 7
  -- "Last: column buffer long enough? 20, offset the length needed."
  pub buffer-short : read_answer false unnamed (0x03 ∷ 0x01 ∷ 0x03 ∷ 0x00 ∷ []) 2 ≡ refused 20 3
  -- "Strict reading .. does every varint read end on a nonzero byte, or have one byte? 25, its start." The first in layout order
  pub count-padded : read_answer true unnamed (0x03 ∷ 0x01 ∷ 0x81 ∷ 0x00 ∷ 0x00 ∷ 0xee ∷ []) 0 ≡ refused 25 2
  pub value-padded : read_answer true (named 2) (0x02 ∷ 0x01 ∷ 0x03 ∷ 0x0a ∷ 0x8a ∷ 0x00 ∷ 0x80 ∷ 0x00 ∷ 0xee ∷ []) 0 ≡ refused 25 4
  pub runs-padded : read_answer true unnamed (0x05 ∷ 0x01 ∷ 0x01 ∷ 0x81 ∷ 0x00 ∷ 0x0a ∷ 0x81 ∷ 0x00 ∷ []) 0 ≡ refused 25 3
  pub run-value-padded : read_answer true unnamed (0x05 ∷ 0x01 ∷ 0x01 ∷ 0x01 ∷ 0x8a ∷ 0x00 ∷ 0x81 ∷ 0x00 ∷ []) 0 ≡ refused 25 4
  pub run-padded : read_answer true unnamed (0x05 ∷ 0x01 ∷ 0x01 ∷ 0x01 ∷ 0x0a ∷ 0x81 ∷ 0x00 ∷ []) 0 ≡ refused 25 5
  pub total-padded : read_answer true unnamed (0x06 ∷ 0x01 ∷ 0x00 ∷ 0x81 ∷ 0x00 ∷ 0x8a ∷ 0x00 ∷ 0x00 ∷ []) 0 ≡ refused 25 3
  pub entry-padded : read_answer true unnamed (0x06 ∷ 0x01 ∷ 0x00 ∷ 0x02 ∷ 0x0a ∷ 0x81 ∷ 0x00 ∷ 0x00 ∷ []) 0 ≡ refused 25 5
  pub first-padded : read_answer true unnamed (0x07 ∷ 0x01 ∷ 0x01 ∷ 0x8a ∷ 0x00 ∷ 0x81 ∷ 0x00 ∷ []) 0 ≡ refused 25 3
  pub size-padded : read_answer true unnamed (0x07 ∷ 0x01 ∷ 0x01 ∷ 0x0a ∷ 0x81 ∷ 0x00 ∷ []) 0 ≡ refused 25 4
  pub block-padded : read_answer true unnamed (0x07 ∷ 0x01 ∷ 0x02 ∷ 0x0a ∷ 0x01 ∷ 0x82 ∷ 0x00 ∷ 0x00 ∷ []) 0 ≡ refused 25 5
  -- a tenth byte of 02 or more passes 25, being nonzero
  pub tenth-passes : read_answer true unnamed (0x02 ∷ 0x01 ∷ 0x01 ∷ nine_ff (0x02 ∷ [])) 1 ≡ ok 1
  -- "Does the chunk end with its body? 26, first byte over. Then 20."
  pub byte-over : read_answer true unnamed (0x03 ∷ 0x01 ∷ 0x01 ∷ 0x00 ∷ 0xee ∷ []) 0 ≡ refused 26 4
  pub strict-short : read_answer true unnamed (0x03 ∷ 0x01 ∷ 0x01 ∷ 0x00 ∷ []) 0 ≡ refused 20 1
  -- "Bytes after the body are ignored", by a reading that is not strict
  pub byte-ignored : read_answer false unnamed (0x03 ∷ 0x01 ∷ 0x81 ∷ 0x00 ∷ 0x00 ∷ 0xee ∷ []) 1 ≡ ok 1

pub read-refusals : ReadRefusals
unfolding reading-computes
read-refusals =
    record {
      no_byte = refl;
      id-0 = refl;
      id-10 = refl;
      id-8 = refl;
      id-9 = refl;
      one_byte = refl;
      name-0 = refl;
      name-8 = refl;
      named-short = refl;
      named-id-0 = refl;
      named-id-10 = refl;
      named-id-9 = refl;
      named_other = refl;
      version = refl;
      named-version = refl;
      count_cut = refl;
      count-ten = refl;
      count-eleven = refl;
      value-cut = refl;
      count-over = refl;
      plain-cut = refl;
      no-width = refl;
      no-code-width = refl;
      no-block-width = refl;
      frame-cut = refl;
      frame-wide = refl;
      block-wide = refl;
      packed-cut = refl;
      frame-packed-cut = refl;
      codes-cut = refl;
      block-cut = refl;
      second-block-cut = refl;
      runs-over = refl;
      run-over = refl;
      runs-short = refl;
      no-runs = refl;
      entries_over = refl;
      entries-equal = refl;
      code-over = refl;
      code-cut = refl;
      code-wide = refl;
      no-entries = refl;
      block-size-0 = refl;
      block-size-over = refl;
      buffer-short = refl;
      count-padded = refl;
      value-padded = refl;
      runs-padded = refl;
      run-value-padded = refl;
      run-padded = refl;
      total-padded = refl;
      entry-padded = refl;
      first-padded = refl;
      size-padded = refl;
      block-padded = refl;
      tenth-passes = refl;
      byte-over = refl;
      strict-short = refl;
      byte-ignored = refl;
    }

pub record OtherRefusals : Type 0 where
  -- "Writing: encoding 1 to 7? 2, at 0. At most 2^24 values? 21. For Dictionary: scratch of min(count, 16,384)? 22; at most 16,384 distinct? 23. Output long
  -- enough? 20."
  pub no-encoding : write_answer 0 fives 4 99 ≡ refused 2 0
  pub byte-encoding : write_answer 8 fives 4 99 ≡ refused 2 0
  pub column-long : (column : List ℤ) (room space : ℕ) → max_chunk_elements < length column → write_answer 6 column room space ≡ refused 21 0
  pub scratch-short : write_answer 6 fives 3 99 ≡ refused 22 0
  pub distinct-over :
      (column : List ℤ) (room space : ℕ) → length column ≤ max_chunk_elements → scratch_needed column ≤ room → too_many_distinct column ≡ true
      → write_answer 6 column room space ≡ refused 23 0
  pub output-short : write_answer 6 fives 4 5 ≡ refused 20 6
  -- "Planning: level at most 9? 24; then 21, 22." "Offsets of 21 to 24 are 0." "A refused .. plan has every number 0"
  pub level-over : plan_answer 10 fives 0 ≡ record { answer = refused 24 0; plan = refused_plan }
  pub plan-long :
      (level : ℕ) (column : List ℤ) (room : ℕ) → level ≤ 9 → max_chunk_elements < length column
      → plan_answer level column room ≡ record { answer = refused 21 0; plan = refused_plan }
  pub plan-scratch : plan_answer 9 fives 3 ≡ record { answer = refused 22 0; plan = refused_plan }
  -- "Statistics or estimates alone: 21, 22."
  pub stats-long :
      (column : List ℤ) (room : ℕ) → max_chunk_elements < length column → stats_answer column room ≡ record { answer = refused 21 0; stats = refused_stats }
  pub stats-scratch : stats_answer fives 3 ≡ record { answer = refused 22 0; stats = refused_stats }
  pub estimates-long :
      (column : List ℤ) (room : ℕ) → max_chunk_elements < length column → estimates_answer column room ≡ record { answer = refused 21 0; estimates = refused_estimates }
  pub estimates-scratch : estimates_answer fives 3 ≡ record { answer = refused 22 0; estimates = refused_estimates }
  -- "Packing alone: 21, 12, 20; unpacking alone: 21, 12, 13, 20; packed length alone: 21, 12."
  pub pack-long : (values : List ℕ) (w space : ℕ) → max_chunk_elements < length values → pack_answer values w space ≡ refused 21 0
  pub pack-wide : pack_answer (1 ∷ 2 ∷ []) 65 0 ≡ refused 12 0
  pub pack-short : pack_answer (1 ∷ 2 ∷ []) 12 2 ≡ refused 20 3
  pub unpack-long : unpack_answer [] 65 (2 ^ 24 + 1) 0 ≡ refused 21 0
  pub unpack-wide : unpack_answer [] 65 1 0 ≡ refused 12 0
  pub unpack-cut : unpack_answer (1 ∷ 2 ∷ []) 12 2 0 ≡ refused 13 2
  pub unpack-short : unpack_answer (1 ∷ 2 ∷ 3 ∷ []) 12 2 1 ≡ refused 20 2
  pub length-long : packed_len_answer (2 ^ 24 + 1) 65 ≡ refused 21 0
  pub length-wide : packed_len_answer (2 ^ 24) 65 ≡ refused 12 0
  pub length_most : packed_len_answer (2 ^ 24) 64 ≡ ok (2 ^ 27)
  pub length-small : packed_len_answer 3 2 ≡ ok 1
  -- "A varint alone: read from a given place, past the end or not, 6, 7; written, 20."
  pub past_end : read_uvarint (1 ∷ 2 ∷ []) 5 ≡ refused 6 5
  pub ten-bytes : read_uvarint (0x00 ∷ nine_ff (0xff ∷ [])) 1 ≡ refused 6 1
  pub eleven-bytes : read_uvarint (0x00 ∷ nine_ff (0xff ∷ 0xff ∷ [])) 1 ≡ refused 7 1
  pub signed-past-end : read_varint (1 ∷ 2 ∷ []) 5 ≡ refused 6 5
  pub write-short : uvarint_write_answer 300 1 ≡ refused 20 2
  pub signed-write-short : varint_write_answer (pos 64) 1 ≡ refused 20 2

-- a column of more than 2^24 values is 21, whatever else is lent
write-long : (column : List ℤ) (room space : ℕ) → max_chunk_elements < length column → write_answer 6 column room space ≡ refused 21 0
unfolding write_answer write_outcome write_checks
write-long column room space long = simp (lt-leb (length column) max_chunk_elements long)

analysis-long : (column : List ℤ) (room : ℕ) → max_chunk_elements < length column → stats_answer column room ≡ record { answer = refused 21 0; stats = refused_stats }
unfolding stats_answer analysis_checks
analysis-long column room long = simp (lt-leb (length column) max_chunk_elements long)

estimates-long-law :
    (column : List ℤ) (room : ℕ) → max_chunk_elements < length column → estimates_answer column room ≡ record { answer = refused 21 0; estimates = refused_estimates }
unfolding estimates_answer analysis_checks
estimates-long-law column room long = simp (lt-leb (length column) max_chunk_elements long)

plan-long-law :
    (level : ℕ) (column : List ℤ) (room : ℕ) → level ≤ 9 → max_chunk_elements < length column
    → plan_answer level column room ≡ record { answer = refused 21 0; plan = refused_plan }
unfolding plan_answer plan_checks analysis_checks
plan-long-law level column room high long = simp (le-leb level 9 high, lt-leb (length column) max_chunk_elements long)

pack-long-law : (values : List ℕ) (w space : ℕ) → max_chunk_elements < length values → pack_answer values w space ≡ refused 21 0
unfolding pack_answer pack_outcome
pack-long-law values w space long = simp (lt-leb (length values) max_chunk_elements long)

-- more than 16,384 distinct values are 23, once 21 and 22 pass
distinct-over-law :
    (column : List ℤ) (room space : ℕ) → length column ≤ max_chunk_elements → scratch_needed column ≤ room → too_many_distinct column ≡ true
    → write_answer 6 column room space ≡ refused 23 0
unfolding write_answer write_outcome write_checks scratch_check encoding_of encodings
distinct-over-law column room space short enough many =
    simp (le-leb (length column) max_chunk_elements short, le-leb (scratch_needed column) room enough, many)

pub other-refusals : OtherRefusals
unfolding planning-computes standalone-computes
other-refusals =
    record {
      no-encoding = refl;
      byte-encoding = refl;
      column-long = λ column room space long. write-long column room space long;
      scratch-short = refl;
      distinct-over = λ column room space short enough many. distinct-over-law column room space short enough many;
      output-short = refl;
      level-over = refl;
      plan-long = λ level column room high long. plan-long-law level column room high long;
      plan-scratch = refl;
      stats-long = λ column room long. analysis-long column room long;
      stats-scratch = refl;
      estimates-long = λ column room long. estimates-long-law column room long;
      estimates-scratch = refl;
      pack-long = λ values w space long. pack-long-law values w space long;
      pack-wide = refl;
      pack-short = refl;
      unpack-long = refl;
      unpack-wide = refl;
      unpack-cut = refl;
      unpack-short = refl;
      length-long = refl;
      length-wide = refl;
      length_most = refl;
      length-small = refl;
      past_end = refl;
      ten-bytes = refl;
      eleven-bytes = refl;
      signed-past-end = refl;
      write-short = refl;
      signed-write-short = refl;
    }
