-- After some turns so many lowest bytes of x are stored, and `rest` is what is above them.
use mathlib.Core.Path.{◌≡◌, ◌∙◌, refl, ap, sym}
use Prim.Native.Nat.{ℕ, ◌+◌, ◌-◌, ◌/◌, ◌^◌}
use native.Mathlib.Nat.{div-one, zero-add}
use native.Mathlib.Numerals.{add-one}
use native.Mathlib.Omega.{arith}
use lib.ListN.{take, drop}
use Rattle.format.proofs.Numbers.Places.{div-suc}
use Rattle.bitpack.proofs.Stores.{tail_step, part_stored, part_long}
use Rattle.format.specs.Digits.{digits}
use Rattle.bitpack.proofs.words.put_bytes.Goals as goal

pub loop-byte-init : goal.loop-byte-init
unfolding digits
loop-byte-init c = (sym (div-one c.args.x), refl)

pub loop-byte-preserved : goal.loop-byte-preserved
loop-byte-preserved c =
    let a = c.args in
    let l = c.loop-byte in (
      ap (λ (z : ℕ). z / 256) l.invariant.0 ∙ div-suc 256 l.byte-index a.x ∙ ap (λ (i : ℕ). a.x / 256 ^ i) (sym (add-one l.byte-index)),
      rw (zero-add l.byte-index) at (tail_step a.x l.byte-index 0 (take (a.p + a.t - a.p) (drop a.p a.out.now)) l.invariant.1 l.invariant.0 refl),
    )

pub returns : goal.returns
returns c =
    let a = c.args in
    let e : c.loop-byte.byte-index ≡ a.t = omega (arith, c.loop-byte-test.false, c.loop-byte.auto.byte-index-end, part_long a.p a.t a.out.now c.requires) in
    part_stored a.x a.p a.t a.out.now c.requires (rw e at c.loop-byte.invariant.1)
