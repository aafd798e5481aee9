-- `quarter` meets its contract: the three values between the quarters are there, and each that is less makes a step.
use borrow.Author.Rules.{rules}
use mir.Facts.{to_z-of_z}
use Rattle.distinct.proofs.Machine.{read_back}
use Rattle.distinct.proofs.Searching.{quartered-made}
use Rattle.distinct.proofs.quarters.quarter.Goals as goal
use Rattle.distinct.proofs.quarters.quarter.Goals.{After-power-far}

pub returns : goal.returns
returns c =
    quartered-made _ _ c.args.low (to_z-of_z c.ranges.key) c.power-far.ensures
    (read_back (search rules)) (read_back (search rules)) (read_back (search rules))
    c.step-lower.ensures.0 c.step-middle.ensures.0 c.step-upper.ensures.0
