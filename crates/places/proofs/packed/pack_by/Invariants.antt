-- Each turn packs the codes of a block: the bytes of the values that are left are still to come (`Storing`).
use mathlib.Core.Path.{◌≡◌}
use mathlib.Core.List.{map}
use Rattle.std.specs.Slice.Iter.{chunks_rest, chunks_size}
use Rattle.format.specs.Packing.{packed}
use Rattle.format.proofs.Numbers.Stores.{Storing}
use Rattle.places.proofs.packed.pack_by.Given as goal

abbrev pub invariant-loop-part : goal.invariant-loop-part
invariant-loop-part g l = (chunks_size l.part-iterator ≡ 128) × (g.C.Coding.code l.coding ≡ g.C.Coding.code l.fn.coding)
    × Storing (packed l.width.bits (map (g.C.Coding.code l.fn.coding) l.column)) l.initial.out l.start (packed l.width.bits (map (g.C.Coding.code l.fn.coding) (chunks_rest l.part-iterator))) l.out l.at
