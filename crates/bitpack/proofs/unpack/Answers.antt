-- The questions in their order; then the values, as many as were asked for, are stored.
use mathlib.Core.Path.{refl, ap}
use mathlib.Core.List.{List, ◌++◌}
use Prim.Native.Nat.{ℕ, ◌≤◌}
use native.Mathlib.Nat.{sub-zero}
use native.Mathlib.Omega.{arith}
use lib.ListN.{drop}
use lib.Seq.{length-take-le}
use borrow.Author.Rules.{rules}
use borrow.Author.Tests.{le-leb, lt-leb}
use Rattle.format.specs.Packing.{packed_end}
use Rattle.format.specs.Answers.{stored}
use Rattle.format.specs.Standalone.{unpack_answer, unpack_buffer, unpack_outcome}
use Rattle.format.proofs.Codecs.Counts.{length-unpacked}
use Rattle.bitpack.proofs.Asking.{unpack_refused}
use Rattle.bitpack.proofs.unpack.Goals.{In_ok-width}
use Rattle.bitpack.proofs.unpack.Goals as goal

narrow : (c : In_ok-width) → c.args.width ≤ 64
narrow c = omega (arith, c.in_ok-width.width.narrow, c.in_ok-width.ensures.0)

pub returns-in_err-width : goal.returns-in_err-width
returns-in_err-width c = let told = unpack_refused c.args.bytes.now c.args.width c.args.count c.args.out.now c.in_err-width.ensures in search (rules, told)

pub returns-then-bytes-packed_len : goal.returns-then-bytes-packed_len
unfolding unpack_answer unpack_buffer unpack_outcome packed_end
returns-then-bytes-packed_len c =
    let needed = rw c.in_ok-width.ensures.0 at c.packed_len.ensures in
    rw c.at.ensures (simp (sub-zero, le-leb _ _ c.in_ok-width.ensures.1, le-leb _ _ (narrow (goal.at.returns-then-bytes-packed_len c).In_ok-width), ← needed, lt-leb _ _ c.if-bytes-packed_len.true) (refl, refl))

pub returns-then-out-count : goal.returns-then-out-count
unfolding unpack_answer unpack_buffer unpack_outcome packed_end
returns-then-out-count c =
    let needed = rw c.in_ok-width.ensures.0 at c.packed_len.ensures in
    rw c.at-then-out-count.ensures (simp (sub-zero, le-leb _ _ c.in_ok-width.ensures.1, le-leb _ _ (narrow (goal.at.returns-then-out-count c).In_ok-width), ← needed, le-leb _ _ c.if-bytes-packed_len.false, lt-leb _ _ c.if-out-count.true) (refl, refl))

pub returns : goal.returns
unfolding unpack_answer unpack_buffer unpack_outcome packed_end stored
returns c =
    let needed = rw c.in_ok-width.ensures.0 at c.packed_len.ensures in
    simp (
      sub-zero,
      le-leb _ _ c.in_ok-width.ensures.1,
      le-leb _ _ (narrow (goal.at.returns c).In_ok-width),
      ← needed,
      le-leb _ _ c.if-bytes-packed_len.false,
      le-leb _ _ c.if-out-count.false,
      length-unpacked,
    )
    (refl, ap (λ (front : List ℕ). front ++ drop c.args.count c.args.out.now) (rw (c.in_ok-width.ensures.0, length-take-le _ _ c.if-out-count.false) at c.unpack_into.ensures))
