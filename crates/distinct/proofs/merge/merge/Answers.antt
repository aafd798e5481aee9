-- `merge` meets its contract: each turn keeps `Merging`.
use mathlib.Core.Path.{◌≡◌}
use Prim.Native.Nat.{◌+◌, ◌-◌}
use native.Mathlib.Omega.{arith}
use borrow.Author.Rules.{rules}
use Rattle.distinct.proofs.Machine.{read_back}
use Rattle.distinct.proofs.Merging.{merging-more, merging-done}
use Rattle.distinct.proofs.merge.merge.Goals as goal

pub loop-j-preserved : goal.loop-j-preserved
loop-j-preserved c =
    let l = c.loop-j in
    let above : l.j - 1 + 1 ≡ l.j = omega (arith, c.loop-j-test.true) in
    let raised = rw above at c.raise-i.ensures.raised in
    let below = rw above at c.raise-i.ensures.below in
    merging-more l.invariant c.loop-j-test.true raised (read_back (search rules)) below

pub returns : goal.returns
returns c = merging-done c.loop-j.invariant c.loop-j-test.false
