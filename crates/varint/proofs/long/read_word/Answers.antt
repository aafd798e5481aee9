-- `varint::long::read_word` meets its contract: where none of the eight bytes is the last, `read_long` goes on from there, and else the word holds the varint.
use Rattle.format.proofs.Numbers.All.{all-by, Below}
use Rattle.varint.proofs.FromWord.{word_over, word_stop, word_answer}
use Rattle.varint.proofs.long.read_word.Goals.{After-groups-low}
use Rattle.varint.proofs.long.read_word.Goals as goal

-- the elements are bytes
bytes : (c : After-groups-low) → Below 256 c.args.bytes.now
bytes c = all-by c.args.bytes.now 0 λ i _. (c.type_inv.bytes i).fits

pub read_long-requires : goal.read_long-requires
read_long-requires c =
    rw c.groups-low.ensures (word_over c.args.at (bytes (goal.at.read_long-requires c).After-groups-low) c.requires.0 c.load-x.ensures c.if-ends-eq0.true)

pub returns : goal.returns
returns c =
    let b = bytes (goal.at.returns c).After-groups-low in
    let stop = word_stop c.args.at b c.requires.0 c.load-x.ensures c.if-ends-eq0.false in
    rw c.groups-low.ensures (word_answer c.args.at b c.requires.0 c.load-x.ensures stop c.requires.1)
