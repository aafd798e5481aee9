-- `take_in` meets its contract: what it does to the buffer.
use mathlib.Core.Path.{refl, ◌∙◌}
use native.Mathlib.Omega.{arith}
use borrow.Author.Rules.{rules}
use mir.Facts.{to_z-of_z}
use Rattle.std.specs.Prelude.{OnErr}
use Rattle.std.proofs.Common.{Ok, Err}
use Rattle.std.specs.declared.result.Result.{Result}
use Rattle.format.specs.Distinct.{insert}
use Rattle.format.proofs.Numbers.Distinct.{length-insert, insert-rising}
use lib.Seq.{length-take-le}
use Rattle.distinct.specs.Sorted.{values_of}
use Rattle.distinct.proofs.Inserting.{same_front, front_stored}
use Rattle.distinct.proofs.sorted.Sorted.take_in.Goals as goal

pub take_in-requires : goal.take_in-requires
take_in-requires c = (c.requires.0, c.requires.1, c.args.self.now.rising)

-- what holds whatever the error
on_err : {A E P : Type 0} (r : Result A E) → P → OnErr r P
on_err (Ok x) p = tt
on_err (Err x) p = p

pub returns-in_err-self-clause-full : goal.returns-in_err-self-clause-full
returns-in_err-self-clause-full c =
    let s = c.args.self.now in
    let full = rw (to_z-of_z c.ranges.key) at c.in_err-self.ensures.full in
    on_err c.from_residual.result (full.0, record { same_buffer = refl; buffer = full.1 ∙ same_front s.slots.now s.held s.inside; count = search rules })

pub invariant_of-self-2 : goal.invariant_of-self-2
invariant_of-self-2 c =
    let s = c.args.self.now in
    let done = rw (to_z-of_z c.ranges.key) at c.in_ok-self.ensures.ok in
    let front = front_stored (insert c.args.key (values_of s)) s.slots.now done.2 done.1 in
    record {
      inside = omega (arith, done.1, length-insert c.args.key (values_of s), length-take-le s.held s.slots.now s.inside, c.take_in.auto.slots, c.requires.1);
      rising = rw front (insert-rising c.args.key (values_of s) s.rising);
    }
