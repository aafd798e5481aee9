-- Two bytes and the count's varint.
use native.Mathlib.Omega.{arith}
use Rattle.format.specs.Header.{header_len}
use Rattle.format.proofs.Numbers.Widths.{uvarint_len_le}
use Rattle.codec.proofs.header.header_len.Goals as goal

pub overflow_add-result : goal.overflow_add-result
overflow_add-result c = omega (arith, c.uvarint_len.ensures, uvarint_len_le c.args.count)

pub returns : goal.returns
unfolding header_len
returns c = omega (arith, c.uvarint_len.ensures)
