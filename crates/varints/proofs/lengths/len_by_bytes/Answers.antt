-- After the pass for the k-th byte `len` is the length where no varint counts more than k bytes; at the longest varint's length that is the length of all.
use mathlib.Core.Path.{◌≡◌, ap, ◌∙◌}
use Prim.Native.Nat.{ℕ, ◌+◌, ◌*◌}
use native.Mathlib.Omega.{arith}
use Rattle.format.specs.Varint.{uvarint_len}
use Rattle.varints.specs.Lengths.{longer, capped}
use Rattle.varints.proofs.Measuring.{capped_most, capped_more, capped_all}
use Rattle.varints.proofs.lengths.len_by_bytes.Goals as goal
use Rattle.varints.proofs.lengths.len_by_bytes.Goals.{In-loop-k}

-- the next byte of each
more : (c : In-loop-k) → capped (c.loop-k.k + 1) c.args.column.values.now ≡ capped c.loop-k.k c.args.column.values.now + longer (7 * c.loop-k.k) c.args.column.values.now
more c = capped_more c.args.bits (omega arith) c.loop-k.k c.args.column.values.now c.loop-k.invariant.1 c.requires

pub loop-k-preserved : goal.loop-k-preserved
loop-k-preserved c =
    let next = more (goal.at.loop-k-preserved c).In-loop-k in
    (c.loop-k.invariant.0, omega arith, omega arith, omega (arith, c.longer_than-len.ensures))

pub overflow_add-len : goal.overflow_add-len
overflow_add-len c = omega (arith, c.longer_than-len.ensures, more (goal.at.overflow_add-len c).In-loop-k, capped_most (c.loop-k.k + 1) c.args.column.values.now)

pub returns : goal.returns
returns c =
    let l = c.loop-k in
    let e : l.k ≡ uvarint_len c.args.bits = omega arith in
    l.invariant.3 ∙ ap (λ (k : ℕ). capped k c.args.column.values.now) e ∙ capped_all c.args.bits (omega arith) c.args.column.values.now c.requires
