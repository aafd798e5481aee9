-- `put_in` meets its contract: each turn keeps `Shifting`.
use mathlib.Core.Path.{◌≡◌}
use Prim.Native.Nat.{◌+◌, ◌-◌}
use native.Mathlib.Omega.{arith}
use borrow.Author.Rules.{rules}
use mir.Facts.{to_z-of_z}
use Rattle.distinct.proofs.Machine.{read_back}
use Rattle.distinct.proofs.Shifting.{shifting-none, shifting-more, shifting-done}
use Rattle.distinct.proofs.sorted.put_in.Goals as goal

pub loop-i-init : goal.loop-i-init
loop-i-init c = shifting-none _ _ c.requires.1 _ c.requires.0

pub loop-i-preserved : goal.loop-i-preserved
loop-i-preserved c =
    let l = c.loop-i in
    let above : l.i - 1 + 1 ≡ l.i = omega (arith, c.loop-i-test.true) in
    rw above (shifting-more _ _ c.requires.1 _ l.invariant c.loop-i-test.true (read_back (search rules)))

pub returns : goal.returns
returns c = shifting-done _ _ c.requires.1 _ c.loop-i.invariant c.loop-i-test.false (to_z-of_z c.ranges.key)
