-- What is left of the copies is one and then the others.
use native.Mathlib.Omega.{arith}
use Rattle.keys.proofs.Filling.{copy_more}
use Rattle.keys.proofs.fill_run.Goals as goal

pub loop-i-preserved : goal.loop-i-preserved
loop-i-preserved c = let l = c.loop-i in (omega arith, copy_more c.args.at l.i c.args.times _ l.invariant.1 (omega arith))
