-- One number is given, and those after it are left.
use mathlib.Core.Path.{◌≡◌, ap, ◌∙◌}
use lib.IntN.{ℤ}
use mir.Syntax.{w64}
use mir.Val.{to_z, of_z}
use borrow.Author.Rules.{rules}
use Rattle.format.specs.Keys.{gap}
use Rattle.number.proofs.Signed.{held}
use Rattle.entries.proofs.Walking.{first_taken, fewer}
use Rattle.entries.proofs.gap.GapsIterator.next.Goals.{After-gap-number}
use Rattle.entries.proofs.gap.GapsIterator.next.Goals as goal

-- the last key is one
number : (c : After-gap-number) → c.gap-number.result ≡ gap c.args.self.now.last (to_z w64 (of_z w64 c.in_ok-entry.field-0-0.now))
number c = c.gap-number.ensures ∙ ap (λ (last : ℤ). gap last (to_z w64 (of_z w64 c.in_ok-entry.field-0-0.now))) (held c.args.self.now.last (search rules))

pub returns-clause-steps : goal.returns-clause-steps
returns-clause-steps c = first_taken c.args.self.now _ c.in_ok-entry.ensures.cases.0 (held _ (search rules)) (number (goal.at.returns-clause-steps c).After-gap-number)

pub returns-clause-goes : goal.returns-clause-goes
returns-clause-goes c =
    record {
      on = λ _. (tt, tt, fewer c.args.self.now _ c.in_ok-entry.ensures.cases.0 (held _ (search rules)) (number (goal.at.returns-clause-goes c).After-gap-number));
      keeps = tt;
      rests = λ _. tt;
    }
