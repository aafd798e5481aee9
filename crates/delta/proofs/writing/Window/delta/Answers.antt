-- `Window::delta` meets its contract: the two values are read back from their bits.
use mathlib.Core.Path.{ap₂, ◌∙◌}
use borrow.Author.Rules.{rules}
use Rattle.format.specs.Keys.{delta}
use Rattle.number.proofs.Signed.{held}
use Rattle.delta.proofs.writing.Window.delta.Goals as goal

pub returns : goal.returns
returns c =
    held _ c.wrapping_sub.type_inv
    ∙ c.wrapping_sub.ensures
    ∙ ap₂ delta (held _ (search rules)) (held _ (search rules))
