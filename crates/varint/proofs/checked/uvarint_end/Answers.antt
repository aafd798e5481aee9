-- `varint::checked::uvarint_end` meets its contract: where ten bytes are there, none of the first k is the last before turn k; elsewhere the varint is read.
use Rattle.std.proofs.Common.{arith}
use Rattle.varint.proofs.Finding.{walked_none, walked_more, walked_last}
use Rattle.varint.proofs.checked.uvarint_end.Goals as goal

pub loop-k-init : goal.loop-k-init
loop-k-init c = (omega arith, omega arith, walked_none _ _ (omega arith))

pub returns-then-bytes-at-lt128 : goal.returns-then-bytes-at-lt128
returns-then-bytes-at-lt128 c = walked_last _ _ c.loop-k.invariant.2 (omega arith) (omega arith) c.if-bytes-at-lt128.true

pub loop-k-preserved : goal.loop-k-preserved
loop-k-preserved c =
    let l = c.loop-k in
    (omega arith, l.invariant.1, walked_more _ _ l.invariant.2 (omega arith) (omega arith) c.if-bytes-at-lt128.false)
