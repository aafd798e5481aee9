-- After i turns the values of the bytes from start + 8 * i on are left.
use Prim.Native.Nat.{◌+◌, ◌-◌, ◌*◌}
use Rattle.format.specs.Plain.{plain_values}
use Rattle.format.proofs.Numbers.Stores.{Storing}
use Rattle.plain.proofs.PlainCodec.fill.Given as goal

abbrev pub invariant-loop-i : goal.invariant-loop-i
invariant-loop-i l = Storing (plain_values l.fn.body.chunk.now l.start l.count) l.initial.slot-items 0 (plain_values l.fn.body.chunk.now (l.start + 8 * l.i) (l.count - l.i)) l.slot-items l.i
