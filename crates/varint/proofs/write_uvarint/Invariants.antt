-- `varint::write_uvarint` meets its contract. The loop's invariant is `Writing`; its measure is the rest.
use Rattle.varint.proofs.Writing.{Writing}
use Rattle.varint.proofs.write_uvarint.Given as goal

abbrev pub invariant-loop-rest : goal.invariant-loop-rest
invariant-loop-rest l = Writing l.value l.initial.out l.out l.rest l.pos

abbrev pub decreases-loop-rest : goal.decreases-loop-rest
decreases-loop-rest l = l.rest
