-- After i turns the varints of the column from i on are left, and they are to be stored from `next` on.
use Prim.Native.Nat.{◌≤◌}
use lib.ListN.{length, drop}
use Rattle.format.specs.VarintBody.{varint_body}
use Rattle.format.proofs.Numbers.Stores.{Storing}
use Rattle.varints.proofs.VarintEncoder.store.Given as goal

abbrev pub invariant-loop-value : goal.invariant-loop-value
invariant-loop-value l = (l.value-index ≤ length l.fn.column.values.now) × Storing (varint_body l.fn.column.values.now) l.initial.out l.at (varint_body (drop l.value-index l.fn.column.values.now)) l.out l.next
