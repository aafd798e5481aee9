-- Id, version and the count's varint, one after the other (`header-stored`).
use mathlib.Core.Path.{ap, ◌∙◌}
use Prim.Native.Nat.{◌-◌, ◌≤◌}
use native.Mathlib.Omega.{arith}
use lib.ListN.{length, set, length-set}
use Rattle.format.specs.Header.{header_len}
use Rattle.format.specs.Standalone.{uvarint_write_outcome}
use Rattle.places.proofs.Placing.{header-short, header-stored, length-laid}
use Rattle.codec.proofs.checked.put_header.Goals as goal

pub returns-then-out-header_len : goal.returns-then-out-header_len
returns-then-out-header_len c =
    let both = header-short _ _ _ (omega (arith, c.if-out-header_len.true, c.header_len.ensures)) in
    record { value = both.0; out_after = both.1 }

pub bounds-out-0 : goal.bounds-out-0
unfolding header_len
bounds-out-0 c = omega (arith, c.if-out-header_len.false, c.header_len.ensures)

pub bounds-out-1 : goal.bounds-out-1
unfolding header_len
bounds-out-1 c = simp length-set (omega (arith, c.if-out-header_len.false, c.header_len.ensures))

pub shape_of-out : goal.shape_of-out
shape_of-out c =
    let a = c.args in
    let first = set a.out.now 0 c.id.result in
    ap length c.put_uvarint.ensures.out_after ∙ length-laid (uvarint_write_outcome a.count (length (set first 1 1) - 2)) 2 (set first 1 1) ∙ length-set first 1 1 ∙ length-set a.out.now 0 c.id.result

pub returns : goal.returns
returns c =
    let a = c.args in
    let room : header_len a.count ≤ length a.out.now = omega (arith, c.if-out-header_len.false, c.header_len.ensures) in
    let put = rw c.id.ensures at c.put_uvarint.ensures in
    let both = header-stored _ _ a.out.now room (put.value, put.out_after) in
    record { value = both.0; out_after = both.1 }
