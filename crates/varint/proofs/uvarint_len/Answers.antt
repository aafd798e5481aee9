-- `varint::uvarint_len` meets its contract, by the definition: the width is 0 for 0 alone, and 64 at most.
use Rattle.std.proofs.Common.{arith}
use Rattle.format.specs.Varint.{uvarint_len}
use Rattle.format.proofs.Numbers.Widths.{width-le}
use Rattle.varint.proofs.uvarint_len.Goals as goal

pub overflow_add-result : goal.overflow_add-result
overflow_add-result c = omega (arith, width-le c.args.value)

pub returns-then-bits-eq0 : goal.returns-then-bits-eq0
unfolding uvarint_len
returns-then-bits-eq0 c = omega arith

pub returns-else-bits-eq0 : goal.returns-else-bits-eq0
unfolding uvarint_len
returns-else-bits-eq0 c = omega arith
