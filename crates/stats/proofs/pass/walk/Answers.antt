-- `pass::walk` meets its contract: what is held and what is still to come are the whole.
use mathlib.Core.Path.{◌∙◌}
use native.Mathlib.Omega.{arith}
use borrow.Author.Rules.{rules}
use Rattle.number.proofs.Signed.{held}
use Rattle.stats.proofs.Walking.{short, walked-first, walked_next, walked-done}
use Rattle.stats.proofs.pass.walk.Goals as goal

pub loop-i-init : goal.loop-i-init
loop-i-init c =
    walked-first _ c.requires (held _ (search rules)) c.new-first.ensures
    (held _ c.first_delta.type_inv ∙ c.first_delta.ensures) c.first-values.ensures c.first-runs.ensures c.first-steps.ensures

pub next-values-requires : goal.next-values-requires
next-values-requires c =
    let f = c.loop-i.invariant.few in
    let within = c.loop-i.invariant.within in
    (omega (arith, c.args.column.few), short c.new-measured.ensures)

pub next-runs-requires : goal.next-runs-requires
next-runs-requires c =
    let f = c.loop-i.invariant.few in
    let within = c.loop-i.invariant.within in
    (omega (arith, c.args.column.few), omega (arith, c.args.column.few), omega (arith, c.args.column.few), short c.new-measured.ensures)

pub loop-i-preserved : goal.loop-i-preserved
loop-i-preserved c =
    walked_next c.loop-i.invariant c.loop-i-test.true (held _ (search rules)) c.new-measured.ensures c.next-values.ensures c.next-runs.ensures c.next-steps.ensures

pub returns : goal.returns
returns c = walked-done c.loop-i.invariant c.loop-i-test.false c.all_bytes.ensures
