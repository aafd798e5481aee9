-- The two deltas are read back from their bits.
use mathlib.Core.Path.{ap, ap₂, ◌∙◌}
use borrow.Author.Rules.{rules}
use Rattle.format.specs.Keys.{Key, gap}
use Rattle.format.specs.Width.{width}
use Rattle.number.proofs.Signed.{held}
use Rattle.delta.proofs.writing.Bounds.width.Goals as goal

pub returns : goal.returns
returns c =
    let low : Key c.args.self.low = search rules in
    let high : Key c.args.self.high = search rules in
    c.of.ensures ∙ ap width (c.gap.ensures ∙ ap₂ gap (held c.args.self.low low) (held c.args.self.high high))
