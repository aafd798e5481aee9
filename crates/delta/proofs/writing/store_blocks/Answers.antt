-- `writing::store_blocks` meets its contract: what is left of the blocks, stored where it stands, is the whole.
use native.Mathlib.Omega.{arith}
use Rattle.format.proofs.Numbers.Stores.{storing-part, storing-room, storing-done}
use Rattle.delta.proofs.Measured.{block_counted, block_taken, no_block}
use Rattle.delta.proofs.writing.store_blocks.Goals as goal

pub store-at-requires : goal.store-at-requires
store-at-requires c =
    omega (arith, storing-room c.loop-window.invariant c.requires, block_counted c.loop-window.window-iterator _ c.in-Some.ensures.steps)

pub loop-window-preserved : goal.loop-window-preserved
loop-window-preserved c =
    let e = c.store-at.ensures in
    rw (e.value, e.out_after) (storing-part c.loop-window.invariant _ _ (block_taken c.loop-window.window-iterator _ c.in-Some.ensures.steps))

pub returns : goal.returns
returns c = storing-done c.loop-window.invariant (no_block c.loop-window.window-iterator c.in-None.ensures.steps.0)
