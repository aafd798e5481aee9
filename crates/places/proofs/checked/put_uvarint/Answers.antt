-- One byte, two bytes, or any number of them by a call: where there is room, what is stored is the varint (`Placing`).
use native.Mathlib.Omega.{arith}
use lib.ListN.{length-set}
use Rattle.places.proofs.Placing.{uvarint_none, one-stored, two-short, two-stored}
use Rattle.places.proofs.checked.put_uvarint.Goals as goal

pub returns-then-out-at : goal.returns-then-out-at
returns-then-out-at c = let a = c.args in
    let both = uvarint_none a.value a.at a.out.now c.if-out-at.true in
    record { value = both.0; out_after = both.1 }

pub returns-then-value-lt128 : goal.returns-then-value-lt128
returns-then-value-lt128 c = let a = c.args in
    let both = one-stored a.value a.at a.out.now c.if-out-at.false c.if-value-lt128.true in
    record { value = both.0; out_after = both.1 }

pub returns-then-out-at-lt2 : goal.returns-then-out-at-lt2
returns-then-out-at-lt2 c =
    let a = c.args in
    let both = two-short a.value a.at a.out.now c.if-out-at.false c.if-value-lt128.false c.if-value-ge16384.false c.if-out-at-lt2.true in
    record { value = both.0; out_after = both.1 }

pub bounds-out-at-3 : goal.bounds-out-at-3
bounds-out-at-3 c = simp length-set (omega (arith, c.if-out-at-lt2.false, c.if-out-at.false))

pub returns : goal.returns
returns c =
    let a = c.args in
    let both = two-stored a.value a.at a.out.now c.if-out-at.false c.if-value-lt128.false c.if-value-ge16384.false c.if-out-at-lt2.false in
    record { value = both.0; out_after = both.1 }
