-- What is left to be asked is the whole: a block more, and the last of them.
use mathlib.Core.Path.{sym, ◌∙◌}
use Prim.Native.Nat.{◌+◌, ◌-◌}
use native.Mathlib.Omega.{arith}
use Rattle.delta.proofs.Asking.{block_read, block_end}
use Rattle.delta.proofs.settling.settle_blocks.Goals as goal

pub loop-done-preserved : goal.loop-done-preserved
loop-done-preserved c =
    let a = c.args in
    let l = c.loop-done in (
      omega arith,
      block_read _ a.size _ (a.deltas - l.done) a.deltas _ c.requires.0 (omega arith) c.requires.1 (omega arith) c.min-n.result (a.deltas - (l.done + a.size)) c.min-n.ensures (omega (arith, c.min-n.ensures)) c.in_ok-read.ensures
          ∙ l.invariant.1,
    )

pub returns-in_ok-read : goal.returns-in_ok-read
returns-in_ok-read c =
    let a = c.args in
    let l = c.loop-done in
    sym (block_end _ a.size _ 0 _ c.requires.0 (omega arith))
    ∙ block_read _ a.size _ (a.deltas - l.done) a.deltas _ c.requires.0 (omega arith) c.requires.1 (omega arith) c.min-n.result 0 c.min-n.ensures (omega (arith, c.min-n.ensures)) c.in_ok-read.ensures
    ∙ l.invariant.1
