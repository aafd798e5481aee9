-- The next window has the deltas of the next block, and what is left those of the blocks after it.
use Rattle.bitpack.proofs.Parts.{part-rest}
use Rattle.delta.proofs.Measured.{window_taken, fewer}
use Rattle.delta.proofs.writing.WindowsIterator.next.Goals as goal

pub returns-clause-steps : goal.returns-clause-steps
returns-clause-steps c = window_taken c.args.self.now _ _ c.if-rest-lt2.false c.min-n.ensures (part-rest _ c.args.self.now.0.now)

pub returns-clause-goes : goal.returns-clause-goes
returns-clause-goes c =
    record {
      on = λ _. (tt, tt, fewer c.args.self.now _ _ c.if-rest-lt2.false c.min-n.ensures (part-rest _ c.args.self.now.0.now));
      keeps = tt;
      rests = λ _. tt;
    }
