-- Each turn packs the codes of a block: the bytes of the values that are left are still to come (`Storing`).
use mathlib.Core.Path.{◌≡◌, ◌∙◌}
use mathlib.Core.List.{map}
use native.Mathlib.Omega.{arith}
use lib.ListN.{length, take, length-map}
use Prim.Native.Nat.{◌≤◌}
use Rattle.places.proofs.Packing.{front-stored, pack_some, pack_part, pack-done}
use Rattle.places.proofs.packed.pack_by.Goals.{After-put_codes}
use Rattle.places.proofs.packed.pack_by.Goals as goal

-- the codes of the part are at the front of the block
codes : (g : _) (c : After-put_codes g) → take (length c.in-Some.part.now) c.put_codes.new.block ≡ map (g.C.Coding.code c.args.coding.now) c.in-Some.part.now
codes g c =
    let l = c.loop-part in
    let part = c.in-Some.part.now in
    let f = g.C.Coding.code c.args.coding.now in
    let short : length part ≤ length l.block = omega (arith, c.in-Some.ensures.steps.1.1, l.invariant.0) in
    front-stored (map f part) l.block (length part) (rw l.invariant.1 at c.put_codes.ensures.value) (length-map part f) short

pub unwrap-at-requires : goal.unwrap-at-requires
unwrap-at-requires g c =
    let l = c.loop-part in
    let p = c.put_packed.ensures in
    let step = c.in-Some.ensures.steps in
    pack_some (g.C.Coding.code c.args.coding.now) c.args.width.bits c.args.column.now _ l.invariant.2 c.in-Some.part.now _ step.1.0 (rw l.invariant.0 at step.1.1)
    c.args.width.narrow c.requires (codes g (goal.at.unwrap-at-requires g c).After-put_codes) (p.value, p.out_after)

pub loop-part-preserved : goal.loop-part-preserved
loop-part-preserved g c =
    let l = c.loop-part in
    let p = c.put_packed.ensures in
    let step = c.in-Some.ensures.steps in (
      step.0 ∙ l.invariant.0,
      c.put_codes.ensures.kept ∙ l.invariant.1,
      pack_part (g.C.Coding.code c.args.coding.now) c.args.width.bits c.args.column.now _ l.invariant.2 c.in-Some.part.now _ step.1.0 (rw l.invariant.0 at step.1.1)
          c.args.width.narrow c.requires (codes g (goal.at.loop-part-preserved g c).After-put_codes) (p.value, p.out_after) c.unwrap-at.ensures,
    )

pub returns : goal.returns
returns g c =
    let l = c.loop-part in
    pack-done (g.C.Coding.code c.args.coding.now) c.args.width.bits c.args.column.now _ l.invariant.2 c.in-None.ensures.steps.1.0
