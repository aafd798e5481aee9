-- The first run is given, and those after it are left.
use lib.IntN.{pos}
use borrow.Author.Rules.{rules}
use Rattle.std.proofs.lemmas.List.{take_rest}
use Rattle.runs.proofs.RunEnds.{first_taken, fewer}
use Rattle.runs.proofs.writing.RunsIterator.next.Goals as goal

pub returns-clause-steps : goal.returns-clause-steps
returns-clause-steps c =
    first_taken c.args.self.now _ c.first_run-times.ensures (search rules) (c.in_ok-key.ensures.item.3.1 (pos 0)) (take_rest c.args.self.now.0.now _)

pub returns-clause-goes : goal.returns-clause-goes
returns-clause-goes c =
    record {
      on = λ _. (
        tt,
        tt,
        fewer c.args.self.now _ c.first_run-times.ensures (search rules) (c.in_ok-key.ensures.item.3.1 (pos 0)) (take_rest c.args.self.now.0.now _),
      );
      keeps = tt;
      rests = λ _. tt;
    }
