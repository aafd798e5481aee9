-- 01's numbers, computed: the tables of ids and ranks, the limits, the levels' gains, the empty column and one value, what calls store, and the sample sheet's
-- entries without a ★ that speak of definitions alone: `worked`. So a change of one of these numbers in specs/ is refused by the checker.
use mathlib.Core.Path.{◌≡◌, refl, ap}
use mathlib.Core.Bool.{true, false}
use mathlib.Core.List.{List, [], ◌∷◌, map}
use Prim.Native.Nat.{ℕ, zero, suc, ◌^◌, ◌-◌, ◌≤◌}
use lib.IntN.{ℤ, pos, negsuc}
use lib.ListN.{length}
use borrow.Author.Tests.{lt-ltb}
use native.Mathlib.Omega.{arith}
use lib.Ieee.{fin}
use Rattle.std.specs.Prelude.{None}
use Rattle.format.specs.Outcome.{Outcome, refused, ok}
use Rattle.format.specs.Answers.{number_of, offset_of, count_of}
use Rattle.format.specs.Folds.{deltas}
use Rattle.format.specs.Encodings.{max_chunk_elements, id_of, encodings, decode_cost_rank, max_dictionary_cardinality}
use Rattle.format.specs.Distinct.{capped_distinct, scratch_needed, distinct, too_many_distinct}
use Rattle.format.specs.Statistics.{analysis_checks, cardinality_of, stats_of, refused_stats, stats_answer, analysis_scratch, distinct_values_part, distinct_after_checks, distinct_values}
use Rattle.format.specs.Estimates.{refused_estimates, estimates_answer, estimates_of, length_in, available_in}
use Rattle.format.specs.Plan.{refused_plan, plan_checks, plan_answer, as_float, meets_gain, plan_of, plan_scratch, estimated_ratio}
use Rattle.format.specs.Standalone.{read_varint, pack_output, unpack_buffer, uvarint_write_output}
use Rattle.format.proofs.Numbers.Distinct.{length-capped_distinct}
use Rattle.format.proofs.Plan.Checks.{analysis_checks-ok}
use Rattle.format.specs.Keys.{zigzag}
use Rattle.format.specs.Width.{width}
use Rattle.format.specs.Packing.{width_at}
use Rattle.format.specs.Dictionary.{code_of}
use Rattle.format.specs.Varint.{read_uvarint}
use Rattle.format.specs.Header.{unnamed}
use Rattle.format.specs.Chunk.{chunk_of}
use Rattle.format.specs.Read.{read_answer, read_column}
use Rattle.format.specs.Write.{write_output, write_scratch}
use Rattle.format.specs.declared.Cardinality.TheVariants.{Exact, AtLeast}
use Rattle.format.specs.declared.Sortedness.TheVariants.{Constant, Ascending, Descending, Unsorted}
use Rattle.format.specs.declared.PlanReason.TheVariants.{Empty, CompressionDisabled, SmallestEstimate}
use Rattle.format.specs.declared.encoding.Encoding.TheVariants.{Plain, BitPacked, FrameOfReference, Dictionary, DeltaBinaryPacked}
use Rattle.format.proofs.Samples.Computing.{reading-computes, planning-computes, standalone-computes}
use Rattle.format.proofs.Samples.Stars.{fives, ends}

-- a number of zeros, then what follows
unfoldable pub zeros_then : ℕ → List ℤ → List ℤ
zeros_then zero rest = rest
zeros_then (suc n) rest = pos 0 ∷ zeros_then n rest

-- 129 zeros, then 1000
abbrev pub jump : List ℤ
jump = zeros_then 129 (pos 1000 ∷ [])

pub record Worked : Type 0 where
  -- the ids, "1. Plain .. 7. DeltaBinaryPacked", and the Rust's `decode_cost_rank`
  pub ids : map id_of encodings ≡ 1 ∷ 2 ∷ 3 ∷ 4 ∷ 5 ∷ 6 ∷ 7 ∷ []
  pub ranks : map decode_cost_rank encodings ≡ 0 ∷ 5 ∷ 1 ∷ 1 ∷ 4 ∷ 3 ∷ 2 ∷ []
  -- "The smallest key gives 2^64 − 1."
  pub least-zigzag : map zigzag ends ≡ (2 ^ 64 - 1) ∷ (2 ^ 64 - 2) ∷ []
  -- "0 for 0, 64 at most"
  pub widths : map width (0 ∷ 1 ∷ 255 ∷ 256 ∷ (2 ^ 64 - 1) ∷ []) ≡ 0 ∷ 1 ∷ 8 ∷ 9 ∷ 64 ∷ []
  -- "accepted, with the count of values or bytes stored, or a number with an offset, count 0"
  pub accepted-parts : (count : ℕ) → (number_of (ok count) ≡ 0) × (offset_of (ok count) ≡ 0) × (count_of (ok count) ≡ count)
  pub refused-parts :
      (number offset : ℕ)
      → (number_of (refused number offset) ≡ number) × (offset_of (refused number offset) ≡ offset) × (count_of (refused number offset) ≡ 0)
  -- a varint alone: AC 02 at 1 is 300, and signed 150; its next place is 3
  pub uvarint-read : read_uvarint (0x00 ∷ 0xac ∷ 0x02 ∷ []) 1 ≡ ok (record { value = 300; next = 3; unpadded = true })
  pub varint-read : read_varint (0x00 ∷ 0xac ∷ 0x02 ∷ []) 1 ≡ ok (record { value = pos 150; next = 3; unpadded = true })
  pub varint-odd : read_varint (0x81 ∷ 0x00 ∷ []) 0 ≡ ok (record { value = negsuc 0; next = 2; unpadded = false })
  -- "longer forms up to ten bytes are read": 80 00 is 0, and padded
  pub padded-zero : read_uvarint (0x80 ∷ 0x00 ∷ []) 0 ≡ ok (record { value = 0; next = 2; unpadded = false })
  -- "Above 16,384 distinct values the cardinality is AtLeast(16385)."
  pub most-distinct : (column : List ℤ) → length (distinct column) ≡ 16384 → cardinality_of column ≡ Exact 16384
  pub over-distinct : (column : List ℤ) → 16385 ≤ length (distinct column) → cardinality_of column ≡ AtLeast 16385
  -- "the empty column has all zeros, Constant, Exact(0)"; as a refused record
  pub empty-stats : stats_of [] ≡ refused_stats
  -- "With one value the delta fields are 0."
  pub one_value : ((stats_of (negsuc 6 ∷ [])).delta_min ≡ pos 0) × ((stats_of (negsuc 6 ∷ [])).delta_max ≡ pos 0) × ((stats_of (negsuc 6 ∷ [])).delta_span ≡ 0)
  -- the orders of a column
  pub orders :
      map (λ column. (stats_of column).sortedness) (fives ∷ (pos 1 ∷ pos 1 ∷ pos 2 ∷ []) ∷ (pos 2 ∷ pos 1 ∷ pos 1 ∷ []) ∷ (pos 1 ∷ pos 2 ∷ pos 1 ∷ []) ∷ [])
      ≡ Constant ∷ Ascending ∷ Descending ∷ Unsorted ∷ []
  -- "A delta is taken modulo 2^64 and read as signed": from the least to the greatest key it is −1, and back it is 1
  pub wrapped : deltas (negsuc (2 ^ 63 - 1) ∷ pos (2 ^ 63 - 1) ∷ negsuc (2 ^ 63 - 1) ∷ []) ≡ negsuc 0 ∷ pos 1 ∷ []
  -- every field of the record of 3, −1, 3, 3
  pub all-fields :
      stats_of (pos 3 ∷ negsuc 0 ∷ pos 3 ∷ pos 3 ∷ [])
      ≡ record {
        count = 4;
        first = pos 3;
        min = negsuc 0;
        max = pos 3;
        run_count = 3;
        sortedness = Unsorted;
        cardinality = Exact 2;
        value_span = 4;
        max_zigzag = 6;
        varint_body_bytes = 4;
        run_length_body_bytes = 6;
        delta_min = negsuc 3;
        delta_max = pos 4;
        delta_span = 8;
      }
  -- "A refused record, list of estimates or plan has every number 0, Constant, Exact(0), Plain, Empty, .. and no candidate available."
  pub no-stats :
      refused_stats
      ≡ record {
        count = 0;
        first = pos 0;
        min = pos 0;
        max = pos 0;
        run_count = 0;
        sortedness = Constant;
        cardinality = Exact 0;
        value_span = 0;
        max_zigzag = 0;
        varint_body_bytes = 0;
        run_length_body_bytes = 0;
        delta_min = pos 0;
        delta_max = pos 0;
        delta_span = 0;
      }
  pub none-told : refused_estimates.lengths ≡ None ∷ None ∷ None ∷ None ∷ None ∷ None ∷ None ∷ []
  pub no_lengths : map (length_in refused_estimates) encodings ≡ 0 ∷ 0 ∷ 0 ∷ 0 ∷ 0 ∷ 0 ∷ 0 ∷ []
  pub none-available : map (available_in refused_estimates) encodings ≡ false ∷ false ∷ false ∷ false ∷ false ∷ false ∷ false ∷ []
  pub no-plan :
      refused_plan
      ≡ record {
        encoding = Plain;
        estimated_bytes = 0;
        plain_bytes = 0;
        reason = Empty;
        run_density = as_float 0;
        estimated_ratio = as_float 0;
        estimates = refused_estimates;
      }
  -- the empty column: lengths 3, 3, 4, 12, 4, 5, Delta unavailable; Plain, Empty at every level, density 0.0, ratio 1.0
  pub empty-lengths : map (length_in (estimates_of [])) encodings ≡ 3 ∷ 3 ∷ 4 ∷ 12 ∷ 4 ∷ 5 ∷ 0 ∷ []
  pub empty-available : map (available_in (estimates_of [])) encodings ≡ true ∷ true ∷ true ∷ true ∷ true ∷ true ∷ false ∷ []
  pub empty-reasons : map (λ level. (plan_of level []).reason) (0 ∷ 1 ∷ 9 ∷ []) ≡ Empty ∷ Empty ∷ Empty ∷ []
  pub empty-density : (plan_of 6 []).run_density ≡ as_float 0
  pub empty-ratio : (plan_of 6 []).estimated_ratio ≡ as_float 1
  -- "Run density and estimated ratio travel with the plan": one run of four values, 35 bytes by 6; and Plain by Plain where the gain is too little
  -- (a float `fin s m e` is m · 2^e: 0.25, 35/6 to the nearest, and 1.0)
  pub fives-planned :
      plan_answer 6 fives 4
      ≡ record {
        answer = ok 1;
        plan =
            record {
              encoding = BitPacked;
              estimated_bytes = 6;
              plain_bytes = 35;
              reason = SmallestEstimate;
              run_density = fin false 1 (negsuc 1);
              estimated_ratio = fin false 6567749456581973 (negsuc 49);
              estimates = estimates_of fives;
            };
      }
  -- the Rust's ratio of no bytes is 1.0
  pub ratios : (estimated_ratio 5 0 ≡ fin false 1 (pos 0)) × (estimated_ratio 5 1 ≡ fin false 5 (pos 0))
  pub ends-ratio : (plan_of 1 ends).estimated_ratio ≡ fin false 1 (pos 0)
  -- the seven lengths of [5,5,5,5]
  pub fives-lengths : map (length_in (estimates_of fives)) encodings ≡ 35 ∷ 7 ∷ 6 ∷ 12 ∷ 6 ∷ 6 ∷ 8 ∷ []
  -- "Level 0, Plain, CompressionDisabled."
  pub level-0 : ((plan_of 0 fives).encoding ≡ Plain) × ((plan_of 0 fives).reason ≡ CompressionDisabled)
  -- "Gain is 0.20 at levels 1 to 3, 0.05 at 4 to 6, 0.01 above": of 100 bytes, 80, 95 and 99 are met, and 81, 96 and 100 are not
  pub gains-met : meets_gain 1 100 80 ∷ meets_gain 3 100 80 ∷ meets_gain 4 100 95 ∷ meets_gain 6 100 95 ∷ meets_gain 7 100 99 ∷ meets_gain 9 100 99 ∷ [] ≡ true ∷ true ∷ true ∷ true ∷ true ∷ true ∷ []
  pub gains-missed : meets_gain 1 100 81 ∷ meets_gain 3 100 81 ∷ meets_gain 4 100 96 ∷ meets_gain 6 100 96 ∷ meets_gain 7 100 100 ∷ meets_gain 9 100 100 ∷ [] ≡ false ∷ false ∷ false ∷ false ∷ false ∷ false ∷ []
  -- "129 zeros, then 1000: Delta estimate 175, chunk 12."
  pub jump-estimate : length_in (estimates_of jump) DeltaBinaryPacked ≡ 175
  pub jump-chunk : length (chunk_of DeltaBinaryPacked jump) ≡ 12
  -- "Plain 1,060 at level 6: a best of 1,007 is kept, 1,008 is not."
  pub sheet-met : meets_gain 6 1060 1007 ≡ true
  pub sheet-missed : meets_gain 6 1060 1008 ≡ false
  -- "Count 2^24 is read", "Block size 2^20 is read"
  pub count_most : read_answer true unnamed (0x03 ∷ 0x01 ∷ 0x80 ∷ 0x80 ∷ 0x80 ∷ 0x08 ∷ 0x00 ∷ []) (2 ^ 24) ≡ ok (2 ^ 24)
  pub block-most : read_answer true unnamed (0x07 ∷ 0x01 ∷ 0x01 ∷ 0x0a ∷ 0x80 ∷ 0x80 ∷ 0x40 ∷ []) 1 ≡ ok 1
  -- "8 bytes a value, little-endian": −2; "least value (8 bytes), width byte, packed differences from it": 7 and 10
  pub plain-bytes : chunk_of Plain (negsuc 1 ∷ []) ≡ 0x01 ∷ 0x01 ∷ 0x01 ∷ 0xfe ∷ 0xff ∷ 0xff ∷ 0xff ∷ 0xff ∷ 0xff ∷ 0xff ∷ 0xff ∷ []
  pub frame-bytes : chunk_of FrameOfReference (pos 7 ∷ pos 10 ∷ []) ≡ 0x04 ∷ 0x01 ∷ 0x02 ∷ 7 ∷ 0 ∷ 0 ∷ 0 ∷ 0 ∷ 0 ∷ 0 ∷ 0 ∷ 0x02 ∷ 0x0c ∷ []
  -- "No entries: only total and width."
  pub empty-dictionary : chunk_of Dictionary [] ≡ 0x06 ∷ 0x01 ∷ 0x00 ∷ 0x00 ∷ 0x00 ∷ []
  -- codes are places among the entries; a width byte past the end is missed at its own place
  pub codes : map (code_of (pos 1 ∷ pos 2 ∷ [])) (pos 1 ∷ pos 2 ∷ pos 3 ∷ []) ≡ 0 ∷ 1 ∷ 2 ∷ []
  pub width-past-end : width_at [] 5 ≡ refused 10 5
  -- "a zero length is read": no 5, then 6 twice
  pub zero-run : read_column true unnamed (0x05 ∷ 0x01 ∷ 0x02 ∷ 0x02 ∷ 0x0a ∷ 0x00 ∷ 0x0c ∷ 0x02 ∷ []) (pos 0 ∷ pos 0 ∷ []) ≡ pos 6 ∷ pos 6 ∷ []
  -- "fill the buffer's front; the rest is untouched"
  pub output-front : write_output 1 [] 0 (9 ∷ 9 ∷ 9 ∷ 9 ∷ []) ≡ 0x01 ∷ 0x01 ∷ 0x00 ∷ 9 ∷ []
  pub output-refused : write_output 1 [] 0 (9 ∷ 9 ∷ []) ≡ 9 ∷ 9 ∷ []
  pub column-front : read_column false unnamed (0x03 ∷ 0x01 ∷ 0x01 ∷ 0x04 ∷ 0x0a ∷ []) (pos 7 ∷ pos 8 ∷ []) ≡ pos 5 ∷ pos 8 ∷ []
  pub column-refused : read_column true unnamed (0x03 ∷ 0x01 ∷ 0x01 ∷ 0x04 ∷ 0x0a ∷ 0x00 ∷ []) (pos 7 ∷ pos 8 ∷ []) ≡ pos 7 ∷ pos 8 ∷ []
  pub pack-front : pack_output (1 ∷ 2 ∷ 3 ∷ []) 2 (9 ∷ 9 ∷ []) ≡ 0x39 ∷ 9 ∷ []
  pub unpack-front : unpack_buffer (0xf9 ∷ 0xff ∷ []) 2 3 (9 ∷ 9 ∷ 9 ∷ 9 ∷ []) ≡ 1 ∷ 2 ∷ 3 ∷ 9 ∷ []
  pub varint-front : uvarint_write_output 300 (9 ∷ 9 ∷ 9 ∷ []) ≡ 0xac ∷ 0x02 ∷ 9 ∷ []
  -- "the distinct values rising .., then old contents", after a plan at level 0 too and past a Dictionary's 20; "Other calls leave it."
  pub scratch-stats : analysis_scratch fives (pos 1 ∷ pos 2 ∷ pos 3 ∷ pos 4 ∷ []) ≡ pos 5 ∷ pos 2 ∷ pos 3 ∷ pos 4 ∷ []
  pub scratch-plan : plan_scratch 0 ends (pos 1 ∷ pos 2 ∷ pos 3 ∷ []) ≡ negsuc (2 ^ 63 - 1) ∷ pos (2 ^ 63 - 1) ∷ pos 3 ∷ []
  pub scratch-dictionary : write_scratch 6 fives (pos 1 ∷ pos 2 ∷ pos 3 ∷ pos 4 ∷ []) ≡ pos 5 ∷ pos 2 ∷ pos 3 ∷ pos 4 ∷ []
  pub scratch-other : write_scratch 5 fives (pos 1 ∷ pos 2 ∷ pos 3 ∷ pos 4 ∷ []) ≡ pos 1 ∷ pos 2 ∷ pos 3 ∷ pos 4 ∷ []
  pub scratch-refused : analysis_scratch fives (pos 1 ∷ pos 2 ∷ pos 3 ∷ []) ≡ pos 1 ∷ pos 2 ∷ pos 3 ∷ []
  -- 18 leaves the column buffer as it was
  pub code-over-column : read_column false unnamed (0x06 ∷ 0x01 ∷ 0x02 ∷ 0x01 ∷ 0x0a ∷ 0x01 ∷ 0x02 ∷ []) (pos 7 ∷ pos 8 ∷ []) ≡ pos 7 ∷ pos 8 ∷ []
  -- an accepted count is that of the values at the scratch's front; "the part is empty .. where 21 or 22 refuses"
  pub stats-given : stats_answer fives 4 ≡ record { answer = ok 1; stats = stats_of fives }
  pub estimates-given : estimates_answer fives 4 ≡ record { answer = ok 1; estimates = estimates_of fives }
  pub counts-capped :
      (column : List ℤ) (room : ℕ) → length column ≤ max_chunk_elements → scratch_needed column ≤ room → 16384 ≤ length (distinct column)
      → ((stats_answer column room).answer ≡ ok 16384) × ((estimates_answer column room).answer ≡ ok 16384)
      × ((plan_answer 9 column room).answer ≡ ok 16384)
  pub part : distinct_values_part ends 2 ≡ ends
  pub part-refused : distinct_values_part ends 1 ≡ []
  pub part-over : (column : List ℤ) (room : ℕ) → too_many_distinct column ≡ true → distinct_values_part column room ≡ []
  -- reading takes what our writing never makes: two blocks of one delta; codes wider than needed; sums that wrap, in a dictionary and in a frame; padded
  -- varints, in a row and as entries
  pub blocks-of-one :
      read_column true unnamed (0x07 ∷ 0x01 ∷ 0x03 ∷ 0x0a ∷ 0x01 ∷ 0x02 ∷ 0x08 ∷ 1 ∷ 0x06 ∷ 0x08 ∷ 9 ∷ []) (pos 0 ∷ pos 0 ∷ pos 0 ∷ [])
      ≡ pos 5 ∷ pos 7 ∷ pos 19 ∷ []
  pub wide-codes : read_column true unnamed (0x06 ∷ 0x01 ∷ 0x02 ∷ 0x02 ∷ 0x0a ∷ 0x01 ∷ 0x08 ∷ 0 ∷ 1 ∷ []) (pos 0 ∷ pos 0 ∷ []) ≡ pos 5 ∷ pos 6 ∷ []
  pub entry-wraps :
      read_column true unnamed
      (0x06 ∷ 0x01 ∷ 0x01 ∷ 0x02 ∷ 0xfe ∷ 0xff ∷ 0xff ∷ 0xff ∷ 0xff ∷ 0xff ∷ 0xff ∷ 0xff ∷ 0xff ∷ 0x01 ∷ 0x01 ∷ 0x01 ∷ 0x01 ∷ []) (pos 0 ∷ [])
      ≡ negsuc (2 ^ 63 - 1) ∷ []
  pub frame-wraps :
      read_column true unnamed (0x04 ∷ 0x01 ∷ 0x01 ∷ 0xff ∷ 0xff ∷ 0xff ∷ 0xff ∷ 0xff ∷ 0xff ∷ 0xff ∷ 0x7f ∷ 0x01 ∷ 0x01 ∷ []) (pos 0 ∷ [])
      ≡ negsuc (2 ^ 63 - 1) ∷ []
  pub long-varints :
      read_column false unnamed (0x02 ∷ 0x01 ∷ 0x82 ∷ 0x00 ∷ 0x8a ∷ 0x00 ∷ 0x8c ∷ 0x80 ∷ 0x00 ∷ []) (pos 0 ∷ pos 0 ∷ []) ≡ pos 5 ∷ pos 6 ∷ []
  pub long-entries :
      read_column false unnamed (0x06 ∷ 0x01 ∷ 0x02 ∷ 0x82 ∷ 0x00 ∷ 0x8a ∷ 0x00 ∷ 0x81 ∷ 0x00 ∷ 0x01 ∷ 0x01 ∷ []) (pos 0 ∷ pos 0 ∷ [])
      ≡ pos 6 ∷ pos 5 ∷ []

-- of exactly 16,384 distinct values the cardinality is exact
most-distinct-law : (column : List ℤ) → length (distinct column) ≡ 16384 → cardinality_of column ≡ Exact 16384
unfolding cardinality_of too_many_distinct
most-distinct-law column e = rw e

-- of more it is a bound
over-distinct-law : (column : List ℤ) → 16385 ≤ length (distinct column) → cardinality_of column ≡ AtLeast 16385
unfolding cardinality_of too_many_distinct
over-distinct-law column h = rw (lt-ltb max_dictionary_cardinality (length (distinct column)) h)

-- and 16,384 values are stored
counts-capped-law :
    (column : List ℤ) (room : ℕ) → length column ≤ max_chunk_elements → scratch_needed column ≤ room → 16384 ≤ length (distinct column)
    → ((stats_answer column room).answer ≡ ok 16384) × ((estimates_answer column room).answer ≡ ok 16384)
    × ((plan_answer 9 column room).answer ≡ ok 16384)
unfolding stats_answer estimates_answer plan_answer plan_checks
counts-capped-law column room size enough many =
    let passed : analysis_checks column room ≡ ok tt = analysis_checks-ok column room size enough in
    let stored : length (capped_distinct column) ≡ 16384 = omega (arith, length-capped_distinct column) in
    (rw passed (ap ok stored), rw passed (ap ok stored), rw passed (ap ok stored))

-- and no part is handed back
part-over-law : (column : List ℤ) (room : ℕ) → too_many_distinct column ≡ true → distinct_values_part column room ≡ []
unfolding distinct_values_part distinct_values
part-over-law column room many = go (analysis_checks column room)
  where
    go : (o : Outcome (Unit {0})) → distinct_after_checks o column ≡ []
    go (refused number offset) = refl
    go (ok done) = rw many

pub worked : Worked
unfolding planning-computes reading-computes standalone-computes zeros_then
worked =
    record {
      ids = refl;
      ranks = refl;
      least-zigzag = refl;
      widths = refl;
      accepted-parts = λ count. (refl, refl, refl);
      refused-parts = λ number offset. (refl, refl, refl);
      uvarint-read = refl;
      varint-read = refl;
      varint-odd = refl;
      padded-zero = refl;
      most-distinct = λ column e. most-distinct-law column e;
      over-distinct = λ column h. over-distinct-law column h;
      empty-stats = refl;
      one_value = (refl, refl, refl);
      orders = refl;
      wrapped = refl;
      all-fields = refl;
      no-stats = refl;
      none-told = refl;
      no_lengths = refl;
      none-available = refl;
      no-plan = refl;
      empty-lengths = refl;
      empty-available = refl;
      empty-reasons = refl;
      empty-density = refl;
      empty-ratio = refl;
      fives-planned = refl;
      ratios = (refl, refl);
      ends-ratio = refl;
      fives-lengths = refl;
      level-0 = (refl, refl);
      gains-met = refl;
      gains-missed = refl;
      jump-estimate = refl;
      jump-chunk = refl;
      sheet-met = refl;
      sheet-missed = refl;
      count_most = refl;
      block-most = refl;
      plain-bytes = refl;
      frame-bytes = refl;
      empty-dictionary = refl;
      codes = refl;
      width-past-end = refl;
      zero-run = refl;
      output-front = refl;
      output-refused = refl;
      column-front = refl;
      column-refused = refl;
      pack-front = refl;
      unpack-front = refl;
      varint-front = refl;
      scratch-stats = refl;
      scratch-plan = refl;
      scratch-dictionary = refl;
      scratch-other = refl;
      scratch-refused = refl;
      code-over-column = refl;
      stats-given = refl;
      estimates-given = refl;
      counts-capped = λ column room size enough many. counts-capped-law column room size enough many;
      part = refl;
      part-refused = refl;
      part-over = λ column room many. part-over-law column room many;
      blocks-of-one = refl;
      wide-codes = refl;
      entry-wraps = refl;
      frame-wraps = refl;
      long-varints = refl;
      long-entries = refl;
    }
