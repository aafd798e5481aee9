-- `writing::blocks_len` meets its contract: what was counted, and the length of the blocks left, is the length of all.
use mathlib.Core.Path.{◌≡◌}
use Prim.Native.Nat.{◌+◌}
use lib.ListN.{length}
use Rattle.format.specs.Folds.{deltas}
use Rattle.delta.specs.Written.{blocks_of}
use Rattle.delta.proofs.writing.blocks_len.Given as goal

abbrev pub invariant-loop-window : goal.invariant-loop-window
invariant-loop-window l = l.total + length (blocks_of (deltas l.window-iterator.0.now)) ≡ length (blocks_of (deltas l.fn.column.values.now))
