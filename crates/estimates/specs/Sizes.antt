-- What is known of a record that lengths are made of. No public contract cites this file.
use Rattle.std.specs.Prelude.{◌*◌, ◌≤◌}
use Rattle.format.specs.Encodings.{max_chunk_elements}
use Rattle.format.specs.declared.IntegerStats.{IntegerStats}

-- the record of a column of up to 2^24 values: a varint has at most 10 bytes, and a run two of them
pub record Within (r : IntegerStats) : Type 0 where
  pub count : r.count ≤ max_chunk_elements
  pub varints : r.varint_body_bytes ≤ 10 * max_chunk_elements
  pub runs : r.run_length_body_bytes ≤ 20 * max_chunk_elements
