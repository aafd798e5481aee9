-- `rank` meets its contract: a guess that stands is the code, and so is what a search finds.
use mathlib.Core.Path.{ap, ◌∙◌}
use Prim.Native.Nat.{◌<◌}
use native.Mathlib.Omega.{arith}
use lib.ListN.{length}
use borrow.Author.Rules.{rules}
use mir.Facts.{to_z-of_z}
use Rattle.format.specs.Dictionary.{code_of}
use Rattle.distinct.proofs.Searching.{searched_code}
use Rattle.distinct.proofs.Slots.{slot_lt}
use Rattle.distinct.proofs.Standing.{stands-code}
use Rattle.dictionary.proofs.guess.Entries.rank.Goals.{After-slot_of-slot}
use Rattle.dictionary.proofs.guess.Entries.rank.Goals as goal

-- the slot is there
there : (c : After-slot_of-slot) → c.slot_of-slot.result < length c.args.guesses.now
there c = rw c.slot_of-slot.ensures (slot_lt _ c.requires)

pub returns-then-stands : goal.returns-then-stands
returns-then-stands c = stands-code c.args.self.values.now _ _ c.stands.ensures c.if-stands.true c.args.self.rising ∙ ap (code_of _) (to_z-of_z c.ranges.key)

pub returns : goal.returns
returns c = c.search-place.ensures ∙ searched_code c.args.self.values.now _ c.args.self.rising (search rules) ∙ ap (code_of _) (to_z-of_z c.ranges.key)

pub offset_bounds-guesses-slot : goal.offset_bounds-guesses-slot
offset_bounds-guesses-slot c = omega (arith, there (goal.at.offset_bounds-guesses-slot c).After-slot_of-slot)

pub bounds-guesses-slot : goal.bounds-guesses-slot
bounds-guesses-slot c = there (goal.at.bounds-guesses-slot c).After-slot_of-slot

pub offset_bounds-guesses-slot-2 : goal.offset_bounds-guesses-slot-2
offset_bounds-guesses-slot-2 c = omega (arith, there (goal.at.offset_bounds-guesses-slot-2 c).After-slot_of-slot)

pub bounds-guesses-slot-2 : goal.bounds-guesses-slot-2
bounds-guesses-slot-2 c = there (goal.at.bounds-guesses-slot-2 c).After-slot_of-slot
