-- The chunk, over the seven layouts (01, "The chunk"; "Questions at the counter", "In layout order"): what writing stores, what reading a body asks, and
-- which values it gives.
use Rattle.std.specs.Prelude.{ℕ, List, ◌++◌, ℤ, length, Option}
use Rattle.format.specs.Outcome.{Outcome}
use Rattle.format.specs.declared.Extent.{Extent}
use Rattle.format.specs.Encodings.{id_of}
use Rattle.format.specs.Header.{header_bytes}
use Rattle.format.specs.Plain.{plain_body, validate_plain, plain_values}
use Rattle.format.specs.VarintBody.{varint_body, validate_varint_body, varint_body_values}
use Rattle.format.specs.BitPacked.{bit_packed_body, validate_bit_packed, bit_packed_values}
use Rattle.format.specs.Frame.{frame_body, validate_frame, frame_values}
use Rattle.format.specs.Runs.{run_body, validate_run_length, run_length_values}
use Rattle.format.specs.Dictionary.{dictionary_body, validate_dictionary, dictionary_values}
use Rattle.format.specs.Delta.{delta_body, validate_delta, delta_values}
use Rattle.format.specs.declared.encoding.Encoding.{Encoding}
use Rattle.format.specs.declared.encoding.Encoding.TheVariants.{Plain, Varint, BitPacked, FrameOfReference, RunLength, Dictionary, DeltaBinaryPacked}

-- what writing a column stores after the header
unfoldable pub body_of : Encoding → List ℤ → List ℕ
body_of Plain column = plain_body column
body_of Varint column = varint_body column
body_of BitPacked column = bit_packed_body column
body_of FrameOfReference column = frame_body column
body_of RunLength column = run_body column
body_of Dictionary column = dictionary_body column
body_of DeltaBinaryPacked column = delta_body column

-- the column's chunk
unfoldable pub chunk_of : Encoding → List ℤ → List ℕ
chunk_of encoding column = header_bytes (id_of encoding) (length column) ++ body_of encoding column

-- reading a body of `count` values that starts at `start` of the chunk s: where it ends, and the first padded varint. `padded` is the one that
-- the header found
unfoldable pub validate_body : Encoding → List ℕ → ℕ → ℕ → Option ℕ → Outcome Extent
validate_body Plain s start count padded = validate_plain s start count padded
validate_body Varint s start count padded = validate_varint_body s start count padded
validate_body BitPacked s start count padded = validate_bit_packed s start count padded
validate_body FrameOfReference s start count padded = validate_frame s start count padded
validate_body RunLength s start count padded = validate_run_length s start count padded
validate_body Dictionary s start count padded = validate_dictionary s start count padded
validate_body DeltaBinaryPacked s start count padded = validate_delta s start count padded

-- the values of a body that was read
unfoldable pub body_values : Encoding → List ℕ → ℕ → ℕ → List ℤ
body_values Plain s start count = plain_values s start count
body_values Varint s start count = varint_body_values s start count
body_values BitPacked s start count = bit_packed_values s start count
body_values FrameOfReference s start count = frame_values s start count
body_values RunLength s start count = run_length_values s start
body_values Dictionary s start count = dictionary_values s start count
body_values DeltaBinaryPacked s start count = delta_values s start count
