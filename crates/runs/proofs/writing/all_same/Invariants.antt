-- The values that were asked so far are the key, or not.
use mathlib.Core.Path.{◌≡◌}
use lib.ListN.{take}
use Rattle.std.specs.List.{list_all}
use Rattle.format.specs.Keys.{eq_z}
use Rattle.runs.proofs.writing.all_same.Given as goal

abbrev pub invariant-loop-value : goal.invariant-loop-value
invariant-loop-value l = l.same ≡ list_all (eq_z l.key) (take l.value-index l.values)
