-- Each turn stores a code: those of the values that are left are still to come (`Mapping`).
use mathlib.Core.Path.{◌≡◌}
use Rattle.places.proofs.Mapped.{Mapping}
use Rattle.places.proofs.packed.put_codes.Given as goal

abbrev pub invariant-loop-j : goal.invariant-loop-j
invariant-loop-j g l = (g.C.Coding.code l.coding ≡ g.C.Coding.code l.initial.coding) × Mapping (g.C.Coding.code l.initial.coding) l.part l.initial.block 0 l.block l.j
