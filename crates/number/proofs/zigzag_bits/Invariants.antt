-- Each turn gathers the bits of a ZigZag: those of the values that are left are still to come, and no value that was passed has more.
use Rattle.number.proofs.Gathered.{Passed}
use Rattle.number.proofs.zigzag_bits.Given as goal

abbrev pub invariant-loop-value : goal.invariant-loop-value
invariant-loop-value l = Passed l.column l.bits l.value-index
