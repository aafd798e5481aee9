-- Eight values that are the same take the walk eight on.
use native.Mathlib.Omega.{arith}
use borrow.Author.Rules.{rules}
use lib.IntN.{pos}
use lib.ListN.{get_or}
use Rattle.format.specs.Keys.{Key}
use Rattle.number.proofs.Signed.{held}
use Rattle.runs.proofs.RunEnds.{running_eight}
use Rattle.runs.proofs.writing.skip_eights.Goals as goal

pub loop-end-preserved : goal.loop-end-preserved
loop-end-preserved c =
    let key : Key (get_or c.args.values.now 0 (pos 0)) = search rules in
    running_eight c.args.values.now c.loop-end.invariant (held _ key) (omega arith) (omega arith) c.if-all_same.ensures
