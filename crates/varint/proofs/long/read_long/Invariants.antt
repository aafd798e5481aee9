-- `varint::long::read_long` meets its contract. The loop's invariant is `Reading`, which the contract asks of the start.
use Rattle.std.proofs.Common.{◌+◌}
use Rattle.varint.specs.Reading.{Reading}
use Rattle.varint.proofs.long.read_long.Given as goal

abbrev pub invariant-loop-k : goal.invariant-loop-k
invariant-loop-k l = Reading l.bytes l.at l.value (l.from + l.k) l.shift
