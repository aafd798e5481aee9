-- `Window::offsets` meets its contract: what is left of the offsets, stored where it stands, is the whole.
use mathlib.Core.Path.{ap, ◌∙◌}
use mir.Syntax.{w64}
use mir.Val.{to_z, of_z}
use native.Mathlib.Omega.{arith}
use Rattle.format.specs.Keys.{gap}
use Rattle.format.proofs.Numbers.Stores.{storing-done}
use Rattle.number.proofs.Signed.{held}
use Rattle.delta.proofs.Bounding.{offset-more, offset-none}
use Rattle.delta.proofs.writing.Window.offsets.Goals as goal

pub loop-i-preserved : goal.loop-i-preserved
loop-i-preserved c =
    let l = c.loop-i in
    let a = c.args in
    let v = c.gap.ensures ∙ ap (gap (to_z w64 (of_z w64 a.low))) (held _ c.delta.type_inv ∙ c.delta.ensures) in
    (offset-more a.self.values.now _ l.i l.invariant.0 (omega arith) v, omega arith)

pub returns : goal.returns
returns c =
    let none = offset-none c.args.self.values.now _ c.loop-i.i (omega arith) in
    rw (held c.args.low c.ranges.low.sfits) at (storing-done c.loop-i.invariant.0 none)
