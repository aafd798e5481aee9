-- `Steps::next` meets its contract, field by field: the tests are the definition's, and the delta is one that wraps.
use borrow.Author.Rules.{rules}
use Rattle.std.specs.Int.{int_min, int_max}
use Rattle.format.specs.Keys.{delta, lesser}
use Rattle.number.proofs.Signed.{held, max_greater}
use Rattle.stats.proofs.Fields.{result-of, field_of}
use Rattle.stats.proofs.pass.Steps.next.Goals as goal

pub returns : goal.returns
unfolding lesser
returns c =
    let s = c.args.self in
    let last = c.args.last in
    let v = c.args.value in
    let f = c.ranges.last.sfits in
    let g = c.ranges.value.sfits in
    let step = c.wrapping_sub-delta.result in
    let low = field_of int_min s.low step (search rules) c.wrapping_sub-delta.type_inv c.min.ensures.value c.min.type_inv in
    let high = field_of int_max s.high step (search rules) c.wrapping_sub-delta.type_inv c.max.ensures.value c.max.type_inv in
    rw (low, high, result-of delta last v f g c.wrapping_sub-delta.ensures, held last f, held v g, max_greater s.high (delta last v))
