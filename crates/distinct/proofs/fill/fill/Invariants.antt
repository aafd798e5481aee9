-- `fill` meets its contract: each turn keeps `Gathering`, in one of three ways, and its laws say what holds at either end.
use Prim.Native.Nat.{◌+◌, ◌<◌}
use lib.ListN.{length}
use Rattle.distinct.proofs.Collecting.{Gathering}
use Rattle.distinct.proofs.fill.fill.Given as goal

abbrev pub invariant-loop-key : goal.invariant-loop-key
invariant-loop-key l = Gathering l.column l.initial.held l.held l.waiting l.seen (l.key-index + 1) × (l.waiting.held < length l.waiting.slots.now)
