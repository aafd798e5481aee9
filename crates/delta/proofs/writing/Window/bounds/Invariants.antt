-- `Window::bounds` meets its contract: the bounds of what was passed and what is left are the bounds of all.
use Prim.Native.Nat.{◌<◌}
use lib.ListN.{length}
use Rattle.delta.proofs.Bounding.{Bounding}
use Rattle.delta.proofs.writing.Window.bounds.Given as goal

abbrev pub invariant-loop-i : goal.invariant-loop-i
invariant-loop-i l = Bounding l.fn.self.values.now l.low l.high l.i × (l.i < length l.fn.self.values.now)
