-- The bytes of the word are its digits, stored one after the other.
use Rattle.number.proofs.WordDigits.{word_stored}
use Rattle.number.proofs.words.store.Goals as goal

pub returns : goal.returns
returns c = word_stored _ _ _ c.requires c.to_le_bytes.ensures c.copy_from_slice.ensures.after
