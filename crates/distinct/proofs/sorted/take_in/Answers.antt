-- `take_in` meets its contract: the key is there, `cap` values are, or it takes its place (`Inserting`).
use mathlib.Core.Path.{refl}
use native.Mathlib.Omega.{arith}
use mir.Facts.{to_z-of_z}
use Rattle.distinct.proofs.Inserting.{taken-known, taken-more, code-most, taken-new}
use Rattle.distinct.proofs.sorted.take_in.Goals as goal

pub returns-in_default-clause-ok : goal.returns-in_default-clause-ok
returns-in_default-clause-ok c =
    let p = taken-known c.args.slots.now c.args.held c.args.key (omega (arith, c.requires.1)) refl (to_z-of_z c.ranges.key) c.requires.2 c.in_default.ensures.found.1 in
    (omega (arith, p.0, c.requires.0), p.0, p.1)

pub returns-then-held-cap-clause-full : goal.returns-then-held-cap-clause-full
returns-then-held-cap-clause-full c =
    let more = taken-more c.args.slots.now c.args.held c.args.key (omega (arith, c.requires.1)) refl (to_z-of_z c.ranges.key) c.in-Err.ensures.absent.1 in
    (omega (arith, more, c.if-held-cap.true), refl)

pub put_in-requires : goal.put_in-requires
put_in-requires c =
    (code-most c.args.slots.now c.args.held c.args.key (omega (arith, c.requires.1)) refl (to_z-of_z c.ranges.key) c.in-Err.ensures.absent.1 c.in-Err.ensures.absent.0, c.requires.1)

pub returns-clause-ok : goal.returns-clause-ok
returns-clause-ok c =
    let more = taken-more c.args.slots.now c.args.held c.args.key (omega (arith, c.requires.1)) refl (to_z-of_z c.ranges.key) c.in-Err.ensures.absent.1 in
    (omega (arith, more, c.requires.0, c.if-held-cap.false), more, taken-new c.args.slots.now c.args.held c.args.key (omega (arith, c.requires.1)) refl (to_z-of_z c.ranges.key) c.in-Err.ensures.absent.1 c.in-Err.ensures.absent.0 c.put_in.ensures)
