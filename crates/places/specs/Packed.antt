-- A packed body that lies inside a chunk: its width byte is there and at most 64, and so are the packed bytes of its values.
use Rattle.std.specs.Prelude.{ℕ, ◌+◌, ◌≤◌, ◌<◌, List, length, get_or}
use Rattle.format.specs.Encodings.{max_chunk_elements}
use Rattle.format.specs.Packing.{packed_len}

pub record Inside (s : List ℕ) (at count : ℕ) : Type 0 where
  pub few : count ≤ max_chunk_elements
  pub there : at < length s
  pub width : get_or s at 0 ≤ 64
  pub bytes : at + 1 + packed_len count (get_or s at 0) ≤ length s
