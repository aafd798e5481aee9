-- `varint::write_uvarint` meets its contract. The loop's invariant is `Writing`; its measure is the rest.
use Rattle.std.proofs.Common.{◌<◌, sym, ap, ◌∙◌, arith, length-set, ltb-false, ltb-true}
use Rattle.varint.proofs.Writing.{begin, inside, again, answer_last, output_last, refused_answer, refused_output}
use Rattle.format.specs.Outcome.{refused}
use Rattle.varint.proofs.write_uvarint.Goals as goal

pub returns-then-too_short : goal.returns-then-too_short
returns-then-too_short c =
    let a = c.args in
    let h = ltb-true _ _ (sym c.too_short.ensures ∙ c.if-too_short.true) in
    record { value = rw c.at.ensures (ap (refused 20) c.uvarint_len.ensures) ∙ refused_answer a.value a.out.now h; out_after = refused_output a.value a.out.now h }

pub loop-rest-init : goal.loop-rest-init
loop-rest-init c = begin _ _ c.ranges.value.fits (ltb-false _ _ (sym c.too_short.ensures ∙ c.if-too_short.false))

pub bounds-out-pos : goal.bounds-out-pos
bounds-out-pos c = inside c.loop-rest.invariant

pub overflow_add-pos : goal.overflow_add-pos
overflow_add-pos c = omega (arith, inside c.loop-rest.invariant)

pub loop-rest-preserved : goal.loop-rest-preserved
loop-rest-preserved c = again c.loop-rest.invariant (omega arith)

pub bounds-out-pos-2 : goal.bounds-out-pos-2
bounds-out-pos-2 c = inside c.loop-rest.invariant

pub overflow_add-result : goal.overflow_add-result
overflow_add-result c = omega (arith, inside c.loop-rest.invariant)

pub shape_of-out : goal.shape_of-out
shape_of-out c = simp length-set c.loop-rest.invariant.long

pub returns : goal.returns
returns c =
    let w = c.loop-rest.invariant in
    let h : c.loop-rest.rest < 128 = omega arith in
    record { value = answer_last w h; out_after = output_last w h }
