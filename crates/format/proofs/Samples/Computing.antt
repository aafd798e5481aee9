-- What the samples compute through, by topic. To unfold one of these names is to unfold every definition on its line, so that a sample's own line stays short.
use lib.Count.{count_leading_zeros, count_trailing_zeros}
use lib.Ieee.{round, size, span, climb, units, odd, of_int, sub, add, sum, neg, mul, div, lt}
use Rattle.format.specs.Digits.{of_digits, digits}
use Rattle.format.specs.Keys.{as_signed, gap, delta, wrapping_add, lesser, greater, key_bytes, key_at, unzigzag}
use Rattle.format.specs.Width.{width}
use Rattle.format.specs.Varint.{uvarint_len, continued, uvarint_bytes, varint_len, varint_bytes, uvarint_end, uvarint_value, ends_unpadded, read_uvarint, uvarint_at, validate_uvarints, uvarint_values, after_uvarints}
use Rattle.format.specs.Packing.{packed_len, packed, unpacked, width_at, packed_end, packed_values}
use Rattle.format.specs.Folds.{least_from, least, greatest_from, greatest, largest, total, deltas_from, deltas}
use Rattle.format.specs.Encodings.{encodings, encoding_of}
use Rattle.format.specs.Answers.{stored}
use Rattle.format.specs.Header.{header_bytes, header_len, read_id, read_header}
use Rattle.format.specs.Plain.{plain_body, validate_plain, plain_values}
use Rattle.format.specs.VarintBody.{varint_body, validate_varint_body, varint_body_values}
use Rattle.format.specs.BitPacked.{packed_body, bit_packed_body, validate_bit_packed, bit_packed_values}
use Rattle.format.specs.Frame.{frame_body, validate_frame, frame_values}
use Rattle.format.specs.Runs.{runs_from, runs, run_bytes, run_body, validate_runs, validate_run_length, run_values, run_length_values}
use Rattle.format.specs.Distinct.{insert, distinct_from, distinct, too_many_distinct, capped_distinct_from, capped_distinct, scratch_check, collected}
use Rattle.format.specs.Dictionary.{gap_bytes, entry_bytes, code_of, code_width, dictionary_body_with, dictionary_body, all_below, validate_dictionary, entries_from, entries_of, dictionary_values}
use Rattle.format.specs.Delta.{block_count, block_bytes, blocks_bytes, delta_body, validate_blocks, validate_delta, block_deltas, prefix_sums, delta_values}
use Rattle.format.specs.Chunk.{body_of, chunk_of, validate_body, body_values}
use Rattle.format.specs.Read.{validate, strict_checks, read_outcome, values_of, read_answer, read_column}
use Rattle.format.specs.Write.{write_checks, write_outcome, write_answer, write_output, write_scratch}
use Rattle.format.specs.Standalone.{packed_len_answer, pack_outcome, pack_answer, pack_output, unpack_outcome, unpack_answer, unpack_buffer, read_varint, uvarint_write_outcome, uvarint_write_answer, uvarint_write_output, varint_write_answer, varint_write_output}
use Rattle.format.specs.Statistics.{non_decreasing, non_increasing, sortedness_of, cardinality_of, run_len, stats_of, refused_stats, analysis_checks, stats_answer, analysis_scratch, distinct_values, distinct_values_part}
use Rattle.format.specs.Estimates.{gaps_len, entries_len, plain_estimate, varint_estimate, bit_packed_estimate, frame_estimate, run_length_estimate, dictionary_estimate, delta_estimate, estimates_from, estimates_of, length_in, available_in, refused_estimates, estimates_answer}
use Rattle.format.specs.Plan.{better, best_from, best, minimum_gain, threshold, meets_gain, reason_of, run_density, estimated_ratio, plan_from, plan_of, refused_plan, plan_checks, plan_answer, plan_scratch}

-- numbers and bytes
unfoldable pub numbers-compute : Unit {0}
unfolding
    count_leading_zeros of_digits digits as_signed gap delta wrapping_add lesser greater key_bytes key_at unzigzag width
    uvarint_len continued uvarint_bytes varint_len varint_bytes uvarint_end uvarint_value ends_unpadded read_uvarint uvarint_at validate_uvarints uvarint_values after_uvarints
    packed_len packed unpacked width_at packed_end packed_values
    least_from least greatest_from greatest largest total deltas_from deltas stored
numbers-compute = tt

-- a column's chunk, and writing it
unfoldable pub writing-computes : Unit {0}
unfolding
    numbers-compute encodings encoding_of header_bytes header_len plain_body varint_body packed_body bit_packed_body frame_body runs_from runs run_bytes run_body
    insert distinct_from distinct too_many_distinct capped_distinct_from capped_distinct scratch_check collected
    gap_bytes entry_bytes code_of code_width dictionary_body_with dictionary_body block_count block_bytes blocks_bytes delta_body body_of chunk_of
    write_checks write_outcome write_answer write_output write_scratch
writing-computes = tt

-- reading a chunk
unfoldable pub reading-computes : Unit {0}
unfolding
    numbers-compute encodings encoding_of read_id read_header validate_plain plain_values validate_varint_body varint_body_values validate_bit_packed bit_packed_values
    validate_frame frame_values validate_runs validate_run_length run_values run_length_values all_below validate_dictionary entries_from entries_of dictionary_values
    block_count validate_blocks validate_delta block_deltas prefix_sums delta_values validate_body body_values
    validate strict_checks read_outcome values_of read_answer read_column
reading-computes = tt

-- statistics, estimates and the plan
unfoldable pub planning-computes : Unit {0}
unfolding
    writing-computes non_decreasing non_increasing sortedness_of cardinality_of run_len stats_of refused_stats analysis_checks stats_answer analysis_scratch
    distinct_values distinct_values_part gaps_len entries_len plain_estimate varint_estimate bit_packed_estimate frame_estimate run_length_estimate dictionary_estimate
    delta_estimate estimates_from estimates_of length_in available_in refused_estimates estimates_answer
    better best_from best minimum_gain threshold meets_gain reason_of run_density estimated_ratio plan_from plan_of refused_plan plan_checks plan_answer plan_scratch
    count_trailing_zeros round size span climb units odd of_int sub add sum neg mul div lt
planning-computes = tt

-- the calls on numbers and bytes alone
unfoldable pub standalone-computes : Unit {0}
unfolding
    numbers-compute packed_len_answer pack_outcome pack_answer pack_output unpack_outcome unpack_answer unpack_buffer read_varint
    uvarint_write_outcome uvarint_write_answer uvarint_write_output varint_write_answer varint_write_output
standalone-computes = tt
