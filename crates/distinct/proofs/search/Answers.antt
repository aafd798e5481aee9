-- `search` meets its contract: each turn keeps `Narrowing`.
use mathlib.Core.Path.{ap, ◌∙◌}
use Prim.Native.Nat.{ℕ, ◌-◌}
use native.Mathlib.Omega.{arith}
use mir.Syntax.{w64}
use mir.Val.{to_z, of_z}
use mir.Facts.{to_z-of_z}
use lib.ListN.{length}
use borrow.Author.Rules.{rules}
use Rattle.format.proofs.Numbers.Widths.{width-le}
use Rattle.distinct.specs.Search.{searched}
use Rattle.distinct.proofs.Machine.{read_back}
use Rattle.distinct.proofs.Searching.{width_some, width_power, searched-none, Narrowing, narrowing-first, narrowing-quarters, narrowing-quarter, narrowing-half, narrowing-done}
use Rattle.distinct.proofs.search.Goals as goal
use Rattle.distinct.proofs.search.Goals.{After-half-at}

pub returns-then-count-eq0 : goal.returns-then-count-eq0
returns-then-count-eq0 c = searched-none c.args.values.now c.args.key c.if-count-eq0.true

pub overflow_sub-left : goal.overflow_sub-left
overflow_sub-left c = rw c.required_width-left.ensures (width_some (length c.args.values.now) (search rules) (search rules))

pub power-requires : goal.power-requires
power-requires c = omega (arith, c.required_width-left.ensures, width-le (length c.args.values.now))

pub overflow_sub-last : goal.overflow_sub-last
overflow_sub-last c =
    let n = length c.args.values.now in
    rw (c.power.ensures, c.required_width-left.ensures) (width_power n (search rules) (search rules)).0

pub loop-left-init : goal.loop-left-init
loop-left-init c =
    let values = c.args.values.now in
    let w = c.required_width-left.ensures in
    let p = width_power (length values) (search rules) (search rules) in
    let first = narrowing-first values _ (search rules) p.0 (ap (λ (n : ℕ). n - 1) w) c.power.ensures (read_back (search rules)) c.begin-low.ensures in
    (omega (arith, w, width-le (length values)), first)

pub quarter-low-requires : goal.quarter-low-requires
quarter-low-requires c =
    let l = c.loop-left in
    (omega (arith, l.invariant.0, c.loop-left-test.true), narrowing-quarters _ _ l.invariant.1 (omega (arith, c.loop-left-test.true)))

pub loop-left-preserved : goal.loop-left-preserved
loop-left-preserved c =
    let l = c.loop-left in
    (omega (arith, l.invariant.0), narrowing-quarter _ _ l.invariant.1 (omega (arith, c.loop-left-test.true)) c.quarter-low.ensures)

-- one value is left
last : (c : After-half-at) → let a = c.args in
    Narrowing a.values.now (to_z w64 (of_z w64 a.key)) c.half-at.result 0
last c = narrowing-half _ _ c.loop-left.invariant.1 (omega (arith, c.loop-left-test.false)) c.half-at.ensures

pub returns : goal.returns
returns c = narrowing-done _ _ (last (goal.at.returns c).After-half-at) (read_back (search rules)) c.step.ensures.0 ∙ ap (searched _) (to_z-of_z c.ranges.key)
