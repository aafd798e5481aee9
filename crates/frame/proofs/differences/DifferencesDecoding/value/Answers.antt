-- Bits read as signed are taken for the number itself, since the sum wraps.
use mathlib.Core.Path.{sym, ap, ap₂, ◌∙◌}
use mathlib.Core.List.{◌∷◌, map}
use lib.IntN.{ℤ, pos}
use borrow.Author.Rules.{rules}
use Rattle.format.specs.Keys.{Key, wrapping_add}
use Rattle.number.proofs.Signed.{held, add-bits}
use Rattle.frame.proofs.differences.DifferencesDecoding.value.Goals as goal

pub returns : goal.returns
returns c codes olds =
    let least = c.args.self.now.least in
    let key : Key least = search rules in
    let sum = held c.wrapping_add.result c.wrapping_add.type_inv ∙ c.wrapping_add.ensures ∙ ap₂ wrapping_add (held least key) (held c.of_bits.result c.of_bits.type_inv ∙ c.of_bits.ensures) ∙ add-bits least c.args.code c.ranges.code.fits in
    ap (λ (v : ℤ). v ∷ map (λ n. wrapping_add least (pos n)) codes) (sym sum)
