-- `varint::long::read_long` meets its contract. The loop's invariant is `Reading`, which the contract asks of the start.
use Rattle.std.proofs.Common.{◌≡◌, ◌+◌, ◌-◌, arith}
use Rattle.varint.proofs.Reading.{again, answer_last, answer_cut, answer_long, byte_of}
use Rattle.varint.proofs.long.read_long.Goals as goal

pub returns-then-b-lt128 : goal.returns-then-b-lt128
returns-then-b-lt128 c =
    let byte = byte_of c.args.bytes.now c.args.from (c.args.at + c.min.result - c.args.from) c.loop-k.k (omega arith) in
    rw (c.group.ensures, byte) (answer_last c.loop-k.invariant (omega arith) (omega arith) (rw byte at c.if-b-lt128.true))

pub loop-k-preserved : goal.loop-k-preserved
loop-k-preserved c =
    let byte = byte_of c.args.bytes.now c.args.from (c.args.at + c.min.result - c.args.from) c.loop-k.k (omega arith) in
    let next : c.args.from + (c.loop-k.k + 1) ≡ c.args.from + c.loop-k.k + 1 = omega arith in
    rw (c.group.ensures, byte, next) (again c.loop-k.invariant (omega arith) (omega arith) (rw byte at c.if-b-lt128.false))

pub returns-then-end-bytes : goal.returns-then-end-bytes
returns-then-end-bytes c = rw c.at.ensures (answer_long c.loop-k.invariant (omega arith) (omega (arith, c.loop-k.invariant.places, c.if-end-bytes.true)))

pub returns : goal.returns
returns c = rw c.at-2.ensures (answer_cut c.loop-k.invariant (omega (arith, c.if-end-bytes.false)))
