-- The delta is the least and the offset, whose bits read as signed are taken for the number itself, since the sum wraps.
use mathlib.Core.Path.{sym, ap, ap₂, ◌∙◌}
use mathlib.Core.List.{◌∷◌, map}
use lib.IntN.{ℤ, pos}
use borrow.Author.Rules.{rules}
use Rattle.format.specs.Keys.{Key, wrapping_add}
use Rattle.format.specs.Delta.{prefix_sums}
use Rattle.number.proofs.Signed.{held, add-bits}
use Rattle.delta.specs.Summed.{from_least, running}
use Rattle.delta.proofs.running.RunningSumDecoding.value.Goals as goal

pub returns : goal.returns
unfolding running from_least prefix_sums
returns c codes olds =
    let s = c.args.self.now in
    let least : Key s.least = search rules in
    let last : Key s.last = search rules in
    let d = c.wrapping_add-delta in
    let v = c.wrapping_add-self in
    let bits = held c.of_bits.result c.of_bits.type_inv ∙ c.of_bits.ensures in
    let by = held d.result d.type_inv ∙ d.ensures ∙ ap₂ wrapping_add (held s.least least) bits ∙ add-bits s.least c.args.code c.ranges.code.fits in
    let sum = v.ensures ∙ ap₂ wrapping_add (held s.last last) by in
    rw (held v.result v.type_inv, held v.result v.type_inv)
    (ap (λ (z : ℤ). z ∷ prefix_sums z (map (λ n. wrapping_add s.least (pos n)) codes)) (sym sum))
