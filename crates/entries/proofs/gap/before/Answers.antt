-- The key is as far below as the ZigZag says.
use borrow.Author.Rules.{rules}
use Rattle.number.proofs.Signed.{held}
use Rattle.entries.proofs.Begins.{gap_before}
use Rattle.entries.proofs.gap.before.Goals as goal

pub returns : goal.returns
returns c =
    let first = held c.args.first (search rules) in
    let zigzag = held c.of_bits.result (search rules) in
    let key = held c.wrapping_sub.result (search rules) in
    let below = rw (zigzag, first, c.of_bits.ensures, c.zigzag_encode.ensures, first) at c.wrapping_sub.ensures in
    rw (key, below) (gap_before c.args.first (search rules))
