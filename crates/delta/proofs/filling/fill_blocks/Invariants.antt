-- `filling::fill_blocks` meets its contract: what is left of the blocks, summed behind what is stored, is the whole. Their varints were read before.
use Prim.Native.Nat.{◌-◌}
use Rattle.delta.proofs.Blocks.{Blocks}
use Rattle.delta.proofs.filling.fill_blocks.Given as goal

abbrev pub invariant-loop-done : goal.invariant-loop-done
invariant-loop-done l = Blocks l.chunk l.size l.from l.deltas l.initial.column l.column l.at l.done (l.deltas - l.done)
