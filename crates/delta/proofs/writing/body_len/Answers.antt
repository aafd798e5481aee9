-- The body has its first value's varint, the block size and the blocks.
use mathlib.Core.Path.{◌≡◌, sym, ap, ◌∙◌}
use native.Mathlib.Omega.{arith}
use lib.ListN.{length}
use borrow.Author.Rules.{rules}
use Rattle.format.specs.Varint.{varint_len}
use Rattle.format.specs.Delta.{delta_block_size}
use Rattle.format.proofs.Numbers.Keys.{varint_len-le}
use Rattle.format.proofs.Numbers.Widths.{uvarint_len_le}
use Rattle.number.proofs.Signed.{held}
use Rattle.delta.proofs.Measured.{body-empty, body-length, body-limit}
use Rattle.delta.proofs.writing.body_len.Goals as goal
use Rattle.delta.proofs.writing.body_len.Goals.{After-varint_len}

pub returns-in_default : goal.returns-in_default
returns-in_default c = ap length (sym (body-empty c.args.column.values.now c.in_default.ensures.value))

-- the first value's varint
first-len : (c : After-varint_len) → c.varint_len.result ≡ varint_len c.in-Some.field-0.now
first-len c = c.varint_len.ensures ∙ ap varint_len (held _ (search rules))

pub overflow_add-result : goal.overflow_add-result
overflow_add-result c =
    omega (arith, first-len (goal.at.overflow_add-result c).After-varint_len, varint_len-le c.in-Some.field-0.now, c.uvarint_len-block_size.ensures, uvarint_len_le delta_block_size)

pub returns : goal.returns
returns c =
    omega (arith, first-len (goal.at.returns c).After-varint_len, c.uvarint_len-block_size.ensures, c.blocks_len.ensures, body-length c.args.column.values.now c.in-Some.ensures.value)

pub overflow_add-result-2 : goal.overflow_add-result-2
overflow_add-result-2 c =
    let column = c.args.column in
    omega (arith, first-len (goal.at.overflow_add-result-2 c).After-varint_len, c.uvarint_len-block_size.ensures, c.blocks_len.ensures, body-length column.values.now c.in-Some.ensures.value, body-limit column.values.now, column.few)
