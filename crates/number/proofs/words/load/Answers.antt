-- The eight bytes are the array, and its word has them as digits.
use Rattle.std.proofs.Common.{◌∙◌, ap, length}
use Rattle.number.proofs.WordDigits.{word_loaded}
use Rattle.number.proofs.words.load.Goals as goal

pub returns : goal.returns
returns c =
    let whole = rw c.unwrap.ensures at c.as_array.ensures.cases in
    word_loaded _ _ c.requires (ap length whole.same ∙ whole.long) whole.same c.from_le_bytes.ensures
