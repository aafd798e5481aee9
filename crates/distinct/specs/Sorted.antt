-- Rising values at the front of a lent buffer. No public contract cites this file.
use Rattle.std.specs.Prelude.{◌≡◌, List, ℤ, length, take}
use Rattle.format.specs.Answers.{stored}
use Rattle.distinct.specs.declared.sorted.Sorted.{Sorted}

-- the values
abbrev pub values_of : Sorted → List ℤ
values_of s = take s.held s.slots.now

-- the same buffer, with these values at its front
pub record Becomes (old new : Sorted) (values : List ℤ) : Type 0 where
  pub same_buffer : new.slots.ghost_name ≡ old.slots.ghost_name
  pub buffer : new.slots.now ≡ stored values old.slots.now
  pub count : new.held ≡ length values
