-- A body that was passed: of that encoding, by what the header says.
use Rattle.std.specs.Prelude.{ℕ, ◌≤◌, ◌≡◌, List, length}
use Rattle.format.specs.Outcome.{ok}
use Rattle.format.specs.Encodings.{max_chunk_elements}
use Rattle.format.specs.Chunk.{validate_body}
use Rattle.format.specs.declared.Extent.{Extent}
use Rattle.format.specs.declared.Header.{Header}
use Rattle.format.specs.declared.encoding.Encoding.{Encoding}

pub record Valid (e : Encoding) (s : List ℕ) (h : Header) : Type 0 where
  pub few : h.count ≤ max_chunk_elements
  pub within : h.start ≤ length s
  pub extent : Extent
  pub passed : validate_body e s h.start h.count h.padded ≡ ok extent
