-- The width of a number is at most 64.
use Rattle.format.proofs.Numbers.Widths.{width-le}
use Rattle.bitpack.proofs.width.Width.of.Goals as goal

pub invariant_of-result : goal.invariant_of-result
invariant_of-result c = record { narrow = rw c.required_width.ensures (width-le c.args.largest) }
