-- `Window::bounds` meets its contract: the bounds of what was passed and what is left are the bounds of all.
use mathlib.Core.Path.{ap, ◌∙◌}
use native.Mathlib.Omega.{arith}
use Rattle.format.specs.Keys.{lesser, greater}
use Rattle.number.proofs.Signed.{held}
use Rattle.delta.proofs.Bounding.{bounding-first, bounding-more, bounding-done}
use Rattle.delta.proofs.writing.Window.bounds.Goals as goal

pub loop-i-init : goal.loop-i-init
loop-i-init c = rw (held _ c.delta-first.type_inv, c.delta-first.ensures) (bounding-first _ c.args.self.long, omega arith)

pub loop-i-preserved : goal.loop-i-preserved
loop-i-preserved c =
    let l = c.loop-i in
    let a = c.args in
    let by = held _ c.delta-delta.type_inv ∙ c.delta-delta.ensures in
    let low = held _ c.lesser-low.type_inv ∙ c.lesser-low.ensures ∙ ap (lesser _) by in
    let high = held _ c.greater-high.type_inv ∙ c.greater-high.ensures ∙ ap (greater _) by in
    (rw (low, high) (bounding-more a.self.values.now l.i l.invariant.0 (omega arith)), omega arith)

pub returns : goal.returns
returns c = bounding-done _ c.loop-i.i c.loop-i.invariant.0 (omega arith)
