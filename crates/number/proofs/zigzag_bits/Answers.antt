-- Each turn gathers the bits of a ZigZag: those of the values that are left are still to come (`Gathered`), and no value that was passed has more.
use mathlib.Core.Path.{ap, ◌∙◌}
use native.Mathlib.Omega.{arith}
use lib.IntN.{pos}
use lib.ListN.{get_or}
use borrow.Author.Rules.{rules}
use Rattle.format.specs.Keys.{zigzag}
use Rattle.number.proofs.Signed.{held}
use Rattle.number.proofs.Gathered.{passed_more, passed_all}
use Rattle.number.proofs.zigzag_bits.Goals as goal

pub loop-value-preserved : goal.loop-value-preserved
loop-value-preserved c =
    let l = c.loop-value in
    let e = c.zigzag_encode-bits.ensures ∙ ap zigzag (held (get_or c.args.column.now l.value-index (pos 0)) (search rules)) in
    passed_more (omega arith) (omega arith) e l.invariant

pub returns-clause-widest : goal.returns-clause-widest
returns-clause-widest c = passed_all (omega arith) c.loop-value.invariant
