-- `writing::store_blocks` meets its contract: what is left of the blocks, stored where it stands, is the whole.
use Rattle.format.specs.Folds.{deltas}
use Rattle.format.proofs.Numbers.Stores.{Storing}
use Rattle.delta.specs.Written.{blocks_of}
use Rattle.delta.proofs.writing.store_blocks.Given as goal

abbrev pub invariant-loop-window : goal.invariant-loop-window
invariant-loop-window l = Storing (blocks_of (deltas l.column)) l.initial.out l.start (blocks_of (deltas l.window-iterator.0.now)) l.out l.at
