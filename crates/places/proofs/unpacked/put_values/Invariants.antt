-- When the values of what is left of the block, and of whatever comes later, are stored from here, all are stored from `from` on.
use mathlib.Core.Path.{◌≡◌}
use mathlib.Core.List.{List, ◌++◌}
use Prim.Native.Nat.{ℕ, ◌+◌}
use lib.ListN.{drop}
use lib.Seq.{sets}
use Rattle.places.proofs.unpacked.put_values.Given as goal

abbrev pub invariant-loop-j : goal.invariant-loop-j
invariant-loop-j g l = (later : List ℕ) → sets l.column (l.from + l.j) (g.D.Decoding.values l.decoding (drop l.j l.block ++ later) (drop (l.from + l.j) l.column))
    ≡ sets l.initial.column l.from (g.D.Decoding.values l.initial.decoding (l.block ++ later) (drop l.from l.initial.column))
