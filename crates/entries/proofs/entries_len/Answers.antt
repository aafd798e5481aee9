-- What is measured is at most the bytes of all entries, ten for each.
use native.Mathlib.Omega.{arith}
use Rattle.entries.proofs.Walking.{len_next, entries_most}
use Rattle.entries.proofs.entries_len.Goals as goal

pub overflow_add-sum : goal.overflow_add-sum
overflow_add-sum c =
    omega (arith, c.loop-number.invariant, len_next _ _ c.in-Some.ensures.steps, c.uvarint_len-sum.ensures, entries_most c.args.entries.now c.requires)
