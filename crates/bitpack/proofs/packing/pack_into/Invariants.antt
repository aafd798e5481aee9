-- The loop keeps the packer's state, with either branch; the tail ends it.
use Rattle.bitpack.proofs.Packer.{State}
use Rattle.bitpack.proofs.packing.pack_into.Given as goal

abbrev pub invariant-loop-value : goal.invariant-loop-value
invariant-loop-value l = State l.fn.width.bits l.vs l.initial.out l.out l.acc l.bits l.p l.value-index
