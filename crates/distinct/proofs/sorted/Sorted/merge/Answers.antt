-- `merge` meets its contract: what waits beside the front is merged with it.
use mathlib.Core.Path.{◌≡◌, refl, sym}
use native.Mathlib.Omega.{arith}
use Rattle.format.specs.Answers.{stored}
use Rattle.format.specs.Distinct.{distinct_from}
use Rattle.format.proofs.Numbers.Distinct.{distinct_from-rising}
use Rattle.distinct.specs.Sorted.{values_of}
use Rattle.distinct.proofs.Inserting.{front_stored}
use Rattle.distinct.proofs.Merging.{mergeable, merged_stored}
use Rattle.distinct.proofs.sorted.Sorted.merge.Goals as goal
use Rattle.distinct.proofs.sorted.Sorted.merge.Goals.{After-merge}

pub merge-requires : goal.merge-requires
merge-requires c =
    let s = c.args.self.now in
    let o = c.args.other.now in
    mergeable s.slots.now o.slots.now s.held o.held o.inside c.requires.apart c.values.ensures c.requires.room s.rising o.rising

-- all values, as they are merged
placed : (c : After-merge) → let s = c.args.self.now in c.merge.new.slots ≡ stored (distinct_from (values_of s) (values_of c.args.other.now)) s.slots.now
placed c =
    let s = c.args.self.now in
    let o = c.args.other.now in
    merged_stored s.slots.now o.slots.now s.held o.held o.inside c.requires.apart c.values.ensures c.merge.ensures

pub invariant_of-self : goal.invariant_of-self
invariant_of-self c =
    let s = c.args.self.now in
    let o = c.args.other.now in
    let front = front_stored (distinct_from (values_of s) (values_of o)) s.slots.now (placed c) (sym c.requires.apart) in
    record { inside = omega (arith, c.merge.auto.slots, c.requires.room); rising = rw front (distinct_from-rising (values_of s) (values_of o) s.rising) }

pub returns : goal.returns
returns c = record { same_buffer = refl; buffer = placed (goal.at.returns c).After-merge; count = sym c.requires.apart }
