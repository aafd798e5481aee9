-- `bench_write_uvarints` meets its contract: the bytes stored, then those of the row of the values left, are the whole row.
use mathlib.Core.Path.{ap, ◌∙◌}
use native.Mathlib.Nat.{sub-zero}
use native.Mathlib.Omega.{arith}
use borrow.Author.Rules.{rules}
use Rattle.format.specs.Answers.{outcome_of}
use Rattle.bitpack.proofs.Parts.{part-rest, part-back}
use Rattle.bench.proofs.Filled.{none, all}
use Rattle.bench.proofs.Rows.{row_written, row-refused, row-end}
use Rattle.bench.proofs.bench_write_uvarints.Goals as goal

pub loop-value-init : goal.loop-value-init
loop-value-init c = rw sub-zero (none _ _)

pub returns-in_default : goal.returns-in_default
returns-in_default c =
    let l = c.loop-value in
    let w = c.write_uvarint in
    let told = rw (part-rest l.at l.out) at w.ensures in
    let e = row-refused _ l.value-index l.invariant (search rules) told.value told.out_after (part-back l.at l.out _ (search rules)) (ap outcome_of c.in_default.is) in
    let d = all l.invariant e.0 in
    (d.0, e.1 ∙ d.1)

pub loop-value-preserved : goal.loop-value-preserved
loop-value-preserved c =
    let l = c.loop-value in
    let w = c.write_uvarint in
    let told = rw (part-rest l.at l.out) at w.ensures in
    row_written _ l.value-index l.invariant (search rules) told.value told.out_after (part-back l.at l.out _ (search rules)) (ap outcome_of c.in-Ok.is)

pub overflow_add-at : goal.overflow_add-at
overflow_add-at c =
    let l = c.loop-value in
    let w = c.write_uvarint in
    let told = rw (part-rest l.at l.out) at w.ensures in
    omega (arith, (row_written _ l.value-index l.invariant (search rules) told.value told.out_after (part-back l.at l.out _ (search rules)) (ap outcome_of c.in-Ok.is)).room)

pub returns : goal.returns
returns c = all c.loop-value.invariant (row-end _ c.loop-value.value-index _ c.loop-value-test.false)
