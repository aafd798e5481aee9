-- The questions in their order; then the packed bytes, as many as their length, are stored.
use mathlib.Core.Path.{◌≡◌, refl, sym, ◌∙◌}
use mathlib.Core.Bool.{true}
use Prim.Native.Nat.{ℕ, ◌≤◌, zero-le}
use native.Mathlib.Omega.{arith}
use lib.Dec.{leb}
use borrow.Author.Rules.{rules}
use borrow.Author.Tests.{le-leb, lt-leb}
use Rattle.format.specs.Answers.{stored}
use Rattle.format.specs.Standalone.{pack_answer, pack_output, pack_outcome}
use Rattle.format.proofs.Numbers.Packing.{length-packed}
use Rattle.bitpack.proofs.Asking.{pack_refused}
use Rattle.bitpack.proofs.PackingLaws.{packed_none}
use Rattle.bitpack.proofs.pack.Goals.{In_ok-width}
use Rattle.bitpack.proofs.pack.Goals as goal

narrow : (c : In_ok-width) → c.args.width ≤ 64
narrow c = omega (arith, c.in_ok-width.width.narrow, c.in_ok-width.ensures.0)

no-room-needed : (space : ℕ) → leb 0 space ≡ true
no-room-needed space = le-leb 0 space zero-le

pub returns-in_err-width : goal.returns-in_err-width
returns-in_err-width c = let told = pack_refused c.args.values.now c.args.width c.args.out.now c.in_err-width.ensures in search (rules, told)

pub returns-then-needed-eq0 : goal.returns-then-needed-eq0
unfolding pack_answer pack_output pack_outcome stored
returns-then-needed-eq0 c =
    let none = sym (rw c.in_ok-width.ensures.0 at c.packed_len-needed.ensures) ∙ c.if-needed-eq0.true in
    simp (le-leb _ _ c.in_ok-width.ensures.1, le-leb _ _ (narrow (goal.at.returns-then-needed-eq0 c).In_ok-width), packed_none, none, no-room-needed) (refl, refl)

pub returns-then-out-needed : goal.returns-then-out-needed
unfolding pack_answer pack_output pack_outcome
returns-then-out-needed c =
    let needed = rw c.in_ok-width.ensures.0 at c.packed_len-needed.ensures in
    rw c.at.ensures (simp (le-leb _ _ c.in_ok-width.ensures.1, le-leb _ _ (narrow (goal.at.returns-then-out-needed c).In_ok-width), ← needed, lt-leb _ _ c.if-out-needed.true) (refl, refl))

pub returns : goal.returns
unfolding pack_answer pack_output pack_outcome stored
returns c =
    let needed = rw c.in_ok-width.ensures.0 at c.packed_len-needed.ensures in
    simp (le-leb _ _ c.in_ok-width.ensures.1, le-leb _ _ (narrow (goal.at.returns c).In_ok-width), length-packed, ← needed, le-leb _ _ c.if-out-needed.false)
    (refl, simp (← needed) at (rw c.in_ok-width.ensures.0 at c.pack_into.ensures))
