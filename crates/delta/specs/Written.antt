-- The blocks of some deltas: the deltas of each, and their bytes.
use Rattle.std.specs.Prelude.{List, [], ◌∷◌, ℕ, zero, suc, ℤ, length, take, drop}
use Rattle.format.specs.Folds.{deltas}
use Rattle.format.specs.Delta.{delta_block_size, block_count, blocks_bytes}
use Rattle.delta.specs.declared.writing.Windows.{Windows}

-- the bytes of all blocks
unfoldable pub blocks_of : List ℤ → List ℕ
blocks_of ds = blocks_bytes (block_count delta_block_size (length ds)) ds

-- the deltas of k blocks, one by one,
unfoldable pub parts : ℕ → List ℤ → List (List ℤ)
parts zero ds = []
parts (suc k) ds = take delta_block_size ds ∷ parts k (drop delta_block_size ds)

-- and of all
unfoldable pub parts_of : List ℤ → List (List ℤ)
parts_of ds = parts (block_count delta_block_size (length ds)) ds

-- those of the windows that a walk has left
unfoldable pub to_come : Windows → List (List ℤ)
to_come w = parts_of (deltas w.0.now)
