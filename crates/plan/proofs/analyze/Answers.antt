-- Where the survey is refused so is the plan, and else it is made of the survey.
use Rattle.std.proofs.Common.{arith}
use Rattle.plan.proofs.Surveying.{survey_accepted}
use Rattle.plan.proofs.analyze.Goals as goal

pub returns-clause-value : goal.returns-clause-value
returns-clause-value c =
    survey_accepted c.args.level _ _ (omega arith) c.in_ok-survey.ensures.analysed c.in_ok-survey.ensures.estimated c.choose_integer_encoding.ensures
