-- The estimates of a column, one by one, as sums over the column, and when each is available. All of it is by computing `estimates_of`: Dictionary and Delta
-- are available by a test, which is put first; an unavailable one's length is 0.
use mathlib.Core.Path.{◌≡◌, refl, sym, ◌∙◌}
use Prim.Native.Nat.{ℕ, ◌+◌, ◌-◌, ◌*◌, max, ◌≤◌, ◌<◌}
use mathlib.Core.Logic.{◌≢◌}
use mathlib.Core.Bool.{Bool, true, false, cond}
use mathlib.Core.List.{List, map}
use lib.IntN.{ℤ, pos}
use lib.Dec.{ltb, leb}
use lib.ListN.{length, get_or}
use borrow.Author.Tests.{ltb-true, ltb-false, leb-true, le-leb, lt-leb}
use Rattle.format.specs.Keys.{gap, zigzag}
use Rattle.format.specs.Varint.{uvarint_len, varint_len}
use Rattle.format.specs.Width.{width}
use Rattle.format.specs.Packing.{packed_len}
use Rattle.format.specs.Encodings.{max_dictionary_cardinality}
use Rattle.format.specs.Folds.{least, greatest, largest, total, deltas}
use Rattle.format.specs.Header.{header_len}
use Rattle.format.specs.Runs.{runs}
use Rattle.format.specs.Distinct.{distinct, too_many_distinct}
use Rattle.format.specs.Dictionary.{code_width}
use Rattle.format.specs.Delta.{delta_block_size, block_count}
use Rattle.format.specs.Statistics.{run_len, cardinality_of, stats_of}
use Rattle.std.specs.Option.{is_some}
use Rattle.format.specs.Estimates.{size_if, is_exact, entries_len, plain_estimate, varint_estimate, bit_packed_estimate, frame_estimate, run_length_estimate, dictionary_estimate, delta_estimate, estimates_from, estimates_of, length_in, available_in}
use Rattle.format.specs.declared.Cardinality.TheVariants.{Exact, AtLeast}
use Rattle.format.specs.declared.encoding.Encoding.{Encoding}
use Rattle.format.specs.declared.encoding.Encoding.TheVariants.{Plain, Varint, BitPacked, FrameOfReference, RunLength, Dictionary, DeltaBinaryPacked}
use Rattle.format.proofs.Numbers.Distinct.{distinct_values-all}

-- the list has seven places, as the struct's array has
pub estimates-seven : (column : List ℤ) → length (estimates_of column).lengths ≡ 7
unfolding estimates_of estimates_from
estimates-seven column = refl

-- ---- availability: "Dictionary needs at most 16,384 distinct values, Delta at least two values; the other five need nothing to be available."

-- the other five
pub always-available : (column : List ℤ) (e : Encoding) → e ≢ Dictionary → e ≢ DeltaBinaryPacked → available_in (estimates_of column) e ≡ true
unfolding available_in estimates_of estimates_from
always-available column Plain d b = refl
always-available column Varint d b = refl
always-available column BitPacked d b = refl
always-available column FrameOfReference d b = refl
always-available column RunLength d b = refl
always-available column Dictionary d b = absurd (d refl)
always-available column DeltaBinaryPacked d b = absurd (b refl)

-- Plain among them
pub plain-available : (column : List ℤ) → available_in (estimates_of column) Plain ≡ true
unfolding available_in estimates_of estimates_from
plain-available column = refl

-- the cardinality is exact where there are at most 16,384 distinct values
is_exact-cardinality : (column : List ℤ) → is_exact (cardinality_of column) ≡ leb (length (distinct column)) max_dictionary_cardinality
unfolding cardinality_of too_many_distinct
is_exact-cardinality column = go (ltb max_dictionary_cardinality (length (distinct column))) refl
  where
    go : (t : Bool) → ltb max_dictionary_cardinality (length (distinct column)) ≡ t
        → is_exact (cond t (AtLeast (max_dictionary_cardinality + 1)) (Exact (length (distinct column)))) ≡ leb (length (distinct column)) max_dictionary_cardinality
    go true e = sym (lt-leb _ _ (ltb-true max_dictionary_cardinality (length (distinct column)) e))
    go false e = sym (le-leb _ _ (ltb-false max_dictionary_cardinality (length (distinct column)) e))

-- a length is there where it is available
sized : (t : Bool) (n : ℕ) → is_some (size_if t n) ≡ t
sized true n = refl
sized false n = refl

-- Dictionary is available exactly where there are at most 16,384 distinct values
pub dictionary-availability : (column : List ℤ) → available_in (estimates_of column) Dictionary ≡ leb (length (distinct column)) max_dictionary_cardinality
unfolding available_in estimates_of estimates_from stats_of
dictionary-availability column = sized _ _ ∙ is_exact-cardinality column

-- so it is where there are so few,
pub dictionary-available : (column : List ℤ) → length (distinct column) ≤ max_dictionary_cardinality → available_in (estimates_of column) Dictionary ≡ true
dictionary-available column h = dictionary-availability column ∙ le-leb _ _ h

-- and only there
pub dictionary-few : (column : List ℤ) → available_in (estimates_of column) Dictionary ≡ true → length (distinct column) ≤ max_dictionary_cardinality
dictionary-few column e = leb-true _ _ (sym (dictionary-availability column) ∙ e)

-- Delta is available exactly where there are at least two values
pub delta-availability : (column : List ℤ) → available_in (estimates_of column) DeltaBinaryPacked ≡ leb 2 (length column)
unfolding available_in estimates_of estimates_from stats_of
delta-availability column = sized _ _

-- so it is where there are two,
pub delta-available : (column : List ℤ) → 2 ≤ length column → available_in (estimates_of column) DeltaBinaryPacked ≡ true
delta-available column h = delta-availability column ∙ le-leb _ _ h

-- and only there
pub delta-two : (column : List ℤ) → available_in (estimates_of column) DeltaBinaryPacked ≡ true → 2 ≤ length column
delta-two column e = leb-true _ _ (sym (delta-availability column) ∙ e)

-- ---- the lengths

-- Plain: header, and 8 bytes a value
pub plain-estimate : (column : List ℤ) → length_in (estimates_of column) Plain ≡ header_len (length column) + 8 * length column
unfolding length_in estimates_of estimates_from stats_of plain_estimate
plain-estimate column = refl

-- Varint: header, and `varint_body_bytes`
pub varint-estimate : (column : List ℤ) → length_in (estimates_of column) Varint ≡ header_len (length column) + total (map varint_len column)
unfolding length_in estimates_of estimates_from stats_of varint_estimate
varint-estimate column = refl

-- BitPacked: header, width byte, and the ZigZags packed at the width of `max_zigzag`
pub bit_packed-estimate :
    (column : List ℤ)
    → length_in (estimates_of column) BitPacked ≡ header_len (length column) + 1 + packed_len (length column) (width (largest (map zigzag column)))
unfolding length_in estimates_of estimates_from stats_of bit_packed_estimate
bit_packed-estimate column = refl

-- FrameOfReference: header, nine bytes, and the differences packed at the width of `value_span`
pub frame-estimate :
    (column : List ℤ)
    → length_in (estimates_of column) FrameOfReference ≡ header_len (length column) + 9 + packed_len (length column) (width (gap (least column) (greatest column)))
unfolding length_in estimates_of estimates_from stats_of frame_estimate
frame-estimate column = refl

-- RunLength: header, run total, and `run_length_body_bytes`
pub run_length-estimate :
    (column : List ℤ)
    → length_in (estimates_of column) RunLength ≡ header_len (length column) + uvarint_len (length (runs column)) + total (map run_len (runs column))
unfolding length_in estimates_of estimates_from stats_of run_length_estimate
run_length-estimate column = refl

-- Dictionary, where available: header, entry total, entries, width byte, and packed codes
pub dictionary-estimate :
    (column : List ℤ) → length (distinct column) ≤ max_dictionary_cardinality
    → length_in (estimates_of column) Dictionary
    ≡ header_len (length column) + uvarint_len (length (distinct column)) + entries_len (distinct column) + 1
    + packed_len (length column) (code_width (length (distinct column)))
unfolding length_in estimates_of estimates_from stats_of dictionary_estimate
dictionary-estimate column h = rw (is_exact-cardinality column, le-leb _ _ h, distinct_values-all column h)

-- Delta, where available: header, first value, block size, the charge of every block, and all deltas packed at the width of `delta_span`
pub delta-estimate :
    (column : List ℤ) → 2 ≤ length column
    → length_in (estimates_of column) DeltaBinaryPacked
    ≡ header_len (length column) + varint_len (get_or column 0 (pos 0)) + uvarint_len delta_block_size
    + block_count delta_block_size (length column - 1) * (max (varint_len (least (deltas column))) (varint_len (greatest (deltas column))) + 1)
    + packed_len (length column - 1) (width (gap (least (deltas column)) (greatest (deltas column))))
unfolding length_in estimates_of estimates_from stats_of delta_estimate
delta-estimate column h = rw (le-leb _ _ h)

-- "An unavailable candidate's length is always 0": Dictionary's,
pub dictionary-none : (column : List ℤ) → max_dictionary_cardinality < length (distinct column) → length_in (estimates_of column) Dictionary ≡ 0
unfolding length_in estimates_of estimates_from stats_of
dictionary-none column h = rw (is_exact-cardinality column, lt-leb _ _ h)

-- and Delta's
pub delta-none : (column : List ℤ) → length column < 2 → length_in (estimates_of column) DeltaBinaryPacked ≡ 0
unfolding length_in estimates_of estimates_from stats_of
delta-none column h = rw (lt-leb _ _ h)
