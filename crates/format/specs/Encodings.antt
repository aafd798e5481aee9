-- The encodings and the limits (01, "The chunk", "Statistics, estimates, plan" and "Questions at the counter").
use Rattle.std.specs.Prelude.{ℕ, ◌-◌, ◌^◌, Bool, ◌&&◌, List, [], ◌∷◌, leb, get_or}
use Rattle.format.specs.declared.encoding.Encoding.{Encoding}
use Rattle.format.specs.declared.encoding.Encoding.TheVariants.{Plain, Varint, BitPacked, FrameOfReference, RunLength, Dictionary, DeltaBinaryPacked}

-- ---- encodings

-- "1. Plain .. 7. DeltaBinaryPacked": the id of each
abbrev pub id_of : Encoding → ℕ
id_of Plain = 1
id_of Varint = 2
id_of BitPacked = 3
id_of FrameOfReference = 4
id_of RunLength = 5
id_of Dictionary = 6
id_of DeltaBinaryPacked = 7

-- "the order of the ids"
unfoldable pub encodings : List Encoding
encodings = Plain ∷ Varint ∷ BitPacked ∷ FrameOfReference ∷ RunLength ∷ Dictionary ∷ DeltaBinaryPacked ∷ []

-- the encoding with an id from 1 to 7. It is asked of no other number
unfoldable pub encoding_of : ℕ → Encoding
encoding_of id = get_or encodings (id - 1) Plain

-- "the lower `decode_cost_rank`": the Rust's ranks
abbrev pub decode_cost_rank : Encoding → ℕ
decode_cost_rank Plain = 0
decode_cost_rank Varint = 5
decode_cost_rank BitPacked = 1
decode_cost_rank FrameOfReference = 1
decode_cost_rank RunLength = 4
decode_cost_rank Dictionary = 3
decode_cost_rank DeltaBinaryPacked = 2

-- "1 to 7", "1 to 9", "1 to 2^20": is n from a to b?
abbrev pub within : ℕ → ℕ → ℕ → Bool
within a b n = leb a n && leb n b

-- ---- limits

-- "At most 2^24 values": the Rust's `MAX_CHUNK_ELEMENTS`
abbrev pub max_chunk_elements : ℕ
max_chunk_elements = 2 ^ 24

-- "at most 16,384 distinct": the Rust's `MAX_DICTIONARY_CARDINALITY`
abbrev pub max_dictionary_cardinality : ℕ
max_dictionary_cardinality = 16384
