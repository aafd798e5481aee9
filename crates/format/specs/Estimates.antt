-- Estimates (01, "Statistics, estimates, plan"): "The seven candidate lengths keep the order of the ids .. All but Delta are exact lengths."
use Rattle.std.specs.Prelude.{ℕ, ◌+◌, ◌-◌, ◌*◌, max, Bool, true, false, List, [], ◌∷◌, ℤ, leb, length, get_or, Option, Some, None}
use Rattle.std.specs.Option.{unwrap_or, is_some}
use Rattle.format.specs.Outcome.{Outcome, refused, ok}
use Rattle.format.specs.Keys.{gap}
use Rattle.format.specs.Varint.{uvarint_len, varint_len}
use Rattle.format.specs.Width.{width}
use Rattle.format.specs.Packing.{packed_len}
use Rattle.format.specs.Encodings.{id_of}
use Rattle.format.specs.Header.{header_len}
use Rattle.format.specs.Distinct.{capped_distinct}
use Rattle.format.specs.Dictionary.{code_width}
use Rattle.format.specs.Delta.{delta_block_size, block_count}
use Rattle.format.specs.Statistics.{stats_of, distinct_values, analysis_checks}
use Rattle.format.specs.declared.encoding.Encoding.{Encoding}
use Rattle.format.specs.declared.Cardinality.{Cardinality}
use Rattle.format.specs.declared.Cardinality.TheVariants.{Exact, AtLeast}
use Rattle.format.specs.declared.IntegerStats.{IntegerStats}
use Rattle.format.specs.declared.SizeEstimates.{SizeEstimates}

-- ---- the lengths, of a record and its distinct values

-- "first entry as a signed varint; gaps as varints": the bytes of the gaps after `last`, and of the entries
unfoldable pub gaps_len : ℤ → List ℤ → ℕ
gaps_len last [] = 0
gaps_len last (e ∷ es) = uvarint_len (gap last e) + gaps_len e es

unfoldable pub entries_len : List ℤ → ℕ
entries_len [] = 0
entries_len (e ∷ es) = varint_len e + gaps_len e es

-- header, then each layout as it is written: "8 bytes a value"; "one signed varint each"; "width byte, packed ZigZags"; "least value (8 bytes), width
-- byte, packed differences"; "run total, then per run a signed varint and a length"; "entry total; first entry ..; gaps ..; width byte; packed codes"
unfoldable pub plain_estimate : IntegerStats → ℕ
plain_estimate r = header_len r.count + 8 * r.count

unfoldable pub varint_estimate : IntegerStats → ℕ
varint_estimate r = header_len r.count + r.varint_body_bytes

unfoldable pub bit_packed_estimate : IntegerStats → ℕ
bit_packed_estimate r = header_len r.count + 1 + packed_len r.count (width r.max_zigzag)

unfoldable pub frame_estimate : IntegerStats → ℕ
frame_estimate r = header_len r.count + 9 + packed_len r.count (width r.value_span)

unfoldable pub run_length_estimate : IntegerStats → ℕ
run_length_estimate r = header_len r.count + uvarint_len r.run_count + r.run_length_body_bytes

unfoldable pub dictionary_estimate : IntegerStats → List ℤ → ℕ
dictionary_estimate r entries =
    header_len r.count + uvarint_len (length entries) + entries_len entries + 1 + packed_len r.count (code_width (length entries))

-- "Delta takes header, first value and block size as written, charges every block the longer varint of the least and greatest delta, plus 1, and
-- packs all deltas at the width of their whole span."
unfoldable pub delta_estimate : IntegerStats → ℕ
delta_estimate r =
    header_len r.count + varint_len r.first + uvarint_len delta_block_size
    + block_count delta_block_size (r.count - 1) * (max (varint_len r.delta_min) (varint_len r.delta_max) + 1)
    + packed_len (r.count - 1) (width r.delta_span)

-- ---- the list of estimates

-- "Dictionary needs at most 16,384 distinct values"
abbrev pub is_exact : Cardinality → Bool
is_exact (Exact n) = true
is_exact (AtLeast n) = false

-- a candidate's length, if it is available
abbrev pub size_if : Bool → ℕ → Option ℕ
size_if true n = Some n
size_if false n = None

-- "Dictionary needs at most 16,384 distinct values, Delta at least two values; the other five need nothing to be available."
unfoldable pub estimates_from : IntegerStats → List ℤ → SizeEstimates
estimates_from r entries =
    let few_distinct = is_exact r.cardinality in
    let two_values = leb 2 r.count in
    record {
      lengths =
          Some (plain_estimate r) ∷ Some (varint_estimate r) ∷ Some (bit_packed_estimate r) ∷ Some (frame_estimate r) ∷ Some (run_length_estimate r)
          ∷ size_if few_distinct (dictionary_estimate r entries) ∷ size_if two_values (delta_estimate r) ∷ [];
    }

-- the estimates of a column
unfoldable pub estimates_of : List ℤ → SizeEstimates
estimates_of column = estimates_from (stats_of column) (distinct_values column)

-- an encoding's length, and whether it is available. "An unavailable candidate's length is always 0."
unfoldable pub length_in : SizeEstimates → Encoding → ℕ
length_in es encoding = unwrap_or (get_or es.lengths (id_of encoding - 1) None) 0

unfoldable pub available_in : SizeEstimates → Encoding → Bool
available_in es encoding = is_some (get_or es.lengths (id_of encoding - 1) None)

-- "A refused .. list of estimates .. has every number 0, .. and no candidate available."
unfoldable pub refused_estimates : SizeEstimates
refused_estimates = record { lengths = None ∷ None ∷ None ∷ None ∷ None ∷ None ∷ None ∷ [] }

-- ---- the call, for a scratch of `room` places (the scratch after it: `analysis_scratch` of Statistics)

-- what the call gives: its answer, and the record
pub record EstimatesAnswer : Type 0 where
  pub answer : Outcome ℕ
  pub estimates : SizeEstimates

abbrev pub estimates_after_checks : Outcome (Unit {0}) → List ℤ → EstimatesAnswer
estimates_after_checks (refused number offset) column = record { answer = refused number offset; estimates = refused_estimates }
estimates_after_checks (ok done) column = record { answer = ok (length (capped_distinct column)); estimates = estimates_of column }

unfoldable pub estimates_answer : List ℤ → ℕ → EstimatesAnswer
estimates_answer column room = estimates_after_checks (analysis_checks column room) column
