-- After i turns the words of the column from i on are left.
use Prim.Native.Nat.{◌+◌, ◌*◌, ◌≤◌}
use lib.ListN.{length, drop}
use Rattle.format.specs.Plain.{plain_body}
use Rattle.format.proofs.Numbers.Stores.{Storing}
use Rattle.plain.proofs.PlainEncoder.store.Given as goal

abbrev pub invariant-loop-i : goal.invariant-loop-i
invariant-loop-i l = (l.i ≤ length l.fn.column.values.now) × Storing (plain_body l.fn.column.values.now) l.initial.out l.at (plain_body (drop l.i l.fn.column.values.now)) l.out (l.at + 8 * l.i)
