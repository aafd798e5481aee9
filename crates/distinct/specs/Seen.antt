-- The table of keys that were met. No public contract cites this file.
use Rattle.std.specs.Prelude.{◌≡◌, ℤ, length, set}
use Rattle.distinct.specs.Search.{slot_of}
use Rattle.distinct.specs.declared.known.Seen.{Seen}

-- the same table, with a key in its slot
pub record Noted (old new : Seen) (key : ℤ) : Type 0 where
  pub slots : new.slots.now ≡ set old.slots.now (slot_of key (length old.slots.now)) key
  pub first : new.first ≡ old.first
