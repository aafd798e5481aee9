-- The column has room for the values to come; and when they are stored from here, all are stored from its front on.
use mathlib.Core.Path.{◌≡◌}
use Prim.Native.Nat.{◌+◌, ◌≤◌}
use lib.ListN.{length, drop}
use lib.Seq.{sets}
use Rattle.places.specs.Blocks.{to_come}
use Rattle.places.proofs.unpacked.fill_by.Given as goal

abbrev pub invariant-loop-n : goal.invariant-loop-n
invariant-loop-n g l = (l.i + length (to_come l.blocks) ≤ length l.column)
    × (sets l.column l.i (g.D.Decoding.values l.decoding (to_come l.blocks) (drop l.i l.column))
    ≡ sets l.initial.column 0 (g.D.Decoding.values l.initial.decoding (to_come l.initial.blocks) l.initial.column))

abbrev pub decreases-loop-n : goal.decreases-loop-n
decreases-loop-n g l = length (to_come l.blocks)
