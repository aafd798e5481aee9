-- What is left to walk was read, and leads to where the whole leads.
use mathlib.Core.Path.{◌≡◌}
use Prim.Native.Nat.{◌-◌}
use Rattle.format.specs.Varint.{after_uvarints}
use Rattle.dictionary.specs.Reading.{AllRead}
use Rattle.dictionary.proofs.row.Row.end.Given as goal

abbrev pub invariant-loop : goal.invariant-loop
invariant-loop l = AllRead l.fn.self.chunk.now l.at (l.fn.self.count - l.counter) × (after_uvarints l.fn.self.chunk.now l.at (l.fn.self.count - l.counter) ≡ after_uvarints l.fn.self.chunk.now l.fn.self.start l.fn.self.count)
