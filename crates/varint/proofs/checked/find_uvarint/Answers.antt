-- `varint::checked::find_uvarint` meets its contract: where ten bytes are there, `Reading` holds of the first k before turn k; elsewhere the varint is read.
use Rattle.std.proofs.Common.{◌≡◌, ◌+◌, ◌*◌, sym, arith}
use Rattle.varint.proofs.Reading.{begin, again, answer_one, answer_last}
use Rattle.varint.proofs.Finding.{found_read}
use Rattle.varint.proofs.checked.find_uvarint.Goals as goal

pub returns-then-first-lt128 : goal.returns-then-first-lt128
returns-then-first-lt128 c = rw c.from.ensures (found_read _ _ (sym (answer_one _ _ (omega arith) c.if-first-lt128.true)))

pub loop-k-init : goal.loop-k-init
loop-k-init c = (omega arith, omega arith, rw c.group-value.ensures (begin _ _ (omega arith) (omega arith)))

pub returns-then-b-lt128 : goal.returns-then-b-lt128
returns-then-b-lt128 c =
    rw c.group.ensures (found_read _ _ (sym (answer_last c.loop-k.invariant.2 (omega arith) (omega arith) c.if-b-lt128.true)))

pub loop-k-preserved : goal.loop-k-preserved
loop-k-preserved c =
    let l = c.loop-k in
    let a = c.args in
    let n : a.at + (l.k + 1) ≡ a.at + l.k + 1 = omega arith in
    let w : 7 * (l.k + 1) ≡ 7 * l.k + 7 = omega arith in
    (omega arith, l.invariant.1, rw (n, w, c.group.ensures) (again l.invariant.2 (omega arith) (omega arith) c.if-b-lt128.false))
