-- The values of a packed body that were not taken yet, and where it ends.
use Rattle.std.specs.Prelude.{ℕ, ◌+◌, List}
use Rattle.format.specs.Packing.{packed_len, packed_values}
use Rattle.places.specs.declared.block.Blocks.{Blocks}

unfoldable pub to_come : Blocks → List ℕ
to_come b = packed_values b.chunk.now b.at b.width.bits b.left

unfoldable pub body_end : Blocks → ℕ
body_end b = b.at + packed_len b.left b.width.bits
