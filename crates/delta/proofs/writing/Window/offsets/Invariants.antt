-- `Window::offsets` meets its contract: what is left of the offsets, stored where it stands, is the whole.
use mathlib.Core.List.{map}
use Prim.Native.Nat.{◌<◌}
use lib.ListN.{length, drop}
use Rattle.format.specs.Keys.{gap}
use Rattle.format.specs.Folds.{deltas}
use Rattle.format.proofs.Numbers.Stores.{Storing}
use Rattle.delta.proofs.writing.Window.offsets.Given as goal

abbrev pub invariant-loop-i : goal.invariant-loop-i
invariant-loop-i l = Storing (map (gap l.low) (deltas l.fn.self.values.now)) l.initial.block 0 (map (gap l.low) (drop l.i (deltas l.fn.self.values.now))) l.block l.i × (l.i < length l.fn.self.values.now)
