-- The column has room for the values to come; and when they are stored from here, all are stored from its front on.
use mathlib.Core.Path.{◌≡◌, refl, sym, ap, ◌∙◌}
use mathlib.Core.List.{List}
use Prim.Native.Nat.{ℕ}
use native.Mathlib.Omega.{arith}
use lib.ListN.{length, take, drop}
use lib.Seq.{sets, length-take-le}
use Rattle.places.specs.Blocks.{to_come}
use Rattle.places.proofs.unpacked.fill_by.Goals as goal
use Rattle.places.proofs.unpacked.fill_by.Goals.{In-Some}

-- the block's values
front : (g : _) (c : In-Some g) → length (take c.in-Some.n c.next.new.block) ≡ c.in-Some.n
front g c = length-take-le c.in-Some.n c.next.new.block (omega (arith, c.in-Some.ensures.taken.1, c.next.array_long))

pub loop-n-init : goal.loop-n-init
loop-n-init g c = (omega (arith, c.requires), refl)

pub loop-n-preserved : goal.loop-n-preserved
loop-n-preserved g c =
    let l = c.loop-n in
    let w = (goal.at.loop-n-preserved g c).In-Some in (
      omega (arith, c.in-Some.ensures.taken.2, l.invariant.0, c.put_values.auto.column),
      rw (front g w) at (c.put_values.ensures (to_come c.next.new.self))
          ∙ ap (λ (codes : List ℕ). sets l.column l.i (g.D.Decoding.values l.decoding codes (drop l.i l.column))) (sym c.in-Some.ensures.taken.3)
          ∙ l.invariant.1,
    )

pub returns : goal.returns
returns g c =
    let l = c.loop-n in
    let none = ap (λ (codes : List ℕ). g.D.Decoding.values l.decoding codes (drop l.i l.column)) c.in_default.ensures.taken ∙ g.met.D.Decoding.none l.decoding (drop l.i l.column) in
    ap (sets l.column l.i) (sym none) ∙ l.invariant.1
