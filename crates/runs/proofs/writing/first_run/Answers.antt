-- One value is left, or the second is another.
use Rattle.runs.proofs.RunEnds.{running_one, running_other, running_last}
use native.Mathlib.Omega.{arith}
use mathlib.Core.Path.{◌∙◌, sym}
use Rattle.runs.proofs.writing.first_run.Goals as goal
use Rattle.runs.proofs.writing.first_run.Goals.{then-values-le1-via-then-values-le1, then-values-le1-via-else-values-le1+then-not-same_key}

pub returns-then-values-le1 : goal.returns-then-values-le1
returns-then-values-le1 c =
    let one = running_one _ c.requires in
    elim c.then-values-le1.branch [
      | then-values-le1-via-then-values-le1 w ↦ running_last _ one w.if-values-le1.true
      | then-values-le1-via-else-values-le1+then-not-same_key w ↦ running_other _ one (omega (arith, w.if-values-le1.false)) (sym w.same_key.ensures ∙ w.if-not-same_key.true)
    ]
