-- What is admitted has its packed length.
use mathlib.Core.Path.{sym}
use Prim.Native.Nat.{◌≤◌}
use native.Mathlib.Omega.{arith}
use Rattle.bitpack.proofs.Asking.{length_asked}
use Rattle.bitpack.proofs.packed_len.Goals as goal

pub returns : goal.returns
returns c =
    let a = c.args in
    let same = c.in_ok-width.ensures.0 in
    let narrow : a.width ≤ 64 = omega (arith, c.in_ok-width.width.narrow, same) in
    rw (c.packed_len.ensures, same) (sym (length_asked a.count a.width c.in_ok-width.ensures.1 narrow))
