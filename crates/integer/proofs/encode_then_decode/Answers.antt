-- Where writing is refused nothing is read; else the front of the output is the column's chunk, and reading it gives the column (`Back`).
use mathlib.Core.Path.{sym}
use Prim.Native.Nat.{◌≤◌}
use native.Mathlib.Omega.{arith}
use lib.ListN.{length}
use lib.Seq.{length-take-le}
use Rattle.std.proofs.Common.{rules}
use Rattle.integer.proofs.Back.{back-refused, back-front, back_read}
use Rattle.integer.proofs.encode_then_decode.Goals as goal
use Rattle.integer.proofs.encode_then_decode.Goals.{In_ok-stored}

pub returns-in_err-stored : goal.returns-in_err-stored
returns-in_err-stored c =
    let a = c.args in
    let told = back-refused a.number a.column.now (length a.scratch.now) a.out.now a.back.now (sym c.in_err-stored.ensures.value) in
    search (rules, told.0, told.1)

-- the bytes that were stored are there
there : (c : In_ok-stored) → c.in_ok-stored.stored ≤ length c.encode_integers.new.out
there c =
    let a = c.args in
    let fits = (back-front a.number a.column.now (length a.scratch.now) a.out.now a.back.now (sym c.in_ok-stored.ensures.value)).3 in
    rw c.encode_integers.ensures.out_after (omega arith)

pub slice_bounds-decode_either-end : goal.slice_bounds-decode_either-end
slice_bounds-decode_either-end c = there (goal.at.slice_bounds-decode_either-end c).In_ok-stored

pub slice_bounds-decode_either-end-2 : goal.slice_bounds-decode_either-end-2
slice_bounds-decode_either-end-2 c = sym (length-take-le _ _ (there (goal.at.slice_bounds-decode_either-end-2 c).In_ok-stored))

pub returns : goal.returns
returns c =
    let a = c.args in
    let told = sym c.in_ok-stored.ensures.value in
    let back = back_read a.number a.column.now (length a.scratch.now) a.out.now a.back.now told c.read_all.ensures a.naming a.strict c.then_some.ensures c.encode_integers.ensures.out_after (c.decode_either.ensures.value, c.decode_either.ensures.column_after) in
    record { value = back.0; scratch_after = c.encode_integers.ensures.scratch_after; out_after = c.encode_integers.ensures.out_after; back_after = back.1 }
