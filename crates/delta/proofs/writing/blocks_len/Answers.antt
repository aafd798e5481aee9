-- The blocks of a column have far fewer than 2 ^ 64 bytes.
use native.Mathlib.Omega.{arith}
use Rattle.delta.proofs.Measured.{block_counted, blocks_limit}
use Rattle.delta.proofs.writing.blocks_len.Goals as goal

pub overflow_add-total : goal.overflow_add-total
overflow_add-total c =
    omega (arith, c.loop-window.invariant, block_counted c.loop-window.window-iterator _ c.in-Some.ensures.steps, blocks_limit c.args.column.values.now, c.args.column.few, c.block_len-total.ensures)
