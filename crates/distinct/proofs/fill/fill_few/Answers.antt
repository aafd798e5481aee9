-- `fill_few` meets its contract: each turn holds the distinct values so far.
use mathlib.Core.Path.{sym, ap, ◌∙◌}
use native.Mathlib.Omega.{arith}
use borrow.Author.Rules.{rules}
use Rattle.format.specs.Distinct.{collected}
use Rattle.distinct.proofs.Machine.{read_back}
use Rattle.distinct.proofs.Collecting.{taking-none, taking-asks, taking-fits, taking-more, taking-done, ok-unless}
use Rattle.distinct.proofs.fill.fill_few.Goals as goal

pub loop-key-init : goal.loop-key-init
loop-key-init c = taking-none c.args.column.now c.new-held.ensures.count

pub take_in-requires : goal.take_in-requires
take_in-requires c = taking-asks _ _ c.loop-key.invariant c.requires.0 (rw c.new-held.ensures.buffer c.requires.1) c.loop-key-test.true

pub unwrap-requires : goal.unwrap-requires
unwrap-requires c = ok-unless _ c.take_in.ensures.full (λ h. omega (arith, h.0, taking-fits _ _ c.loop-key.invariant c.requires.0 c.loop-key-test.true))

pub loop-key-preserved : goal.loop-key-preserved
loop-key-preserved c = taking-more _ _ c.loop-key.invariant c.loop-key-test.true (read_back (search rules)) (rw c.unwrap.ensures at c.take_in.ensures.ok).1

pub returns-clause-value : goal.returns-clause-value
returns-clause-value c = rw c.len.ensures (taking-done _ _ c.loop-key.invariant c.requires.0 c.loop-key-test.false).0

pub returns-clause-scratch_after : goal.returns-clause-scratch_after
returns-clause-scratch_after c =
    let same = sym (c.loop-key.invariant.same_buffer ∙ c.new-held.ensures.same_buffer) in
    let is = (taking-done _ _ c.loop-key.invariant c.requires.0 c.loop-key-test.false).1 ∙ ap (collected c.args.column.now) c.new-held.ensures.buffer in
    rw (← is) (search rules)
