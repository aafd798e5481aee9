-- `round_trip` meets its contract: a trip ends in one of three ways (Ends), and whichever it is, the third demand holds of it (Claims).
use mathlib.Core.Path.{refl, sym, ap, ◌∙◌}
use Prim.Native.Nat.{◌≤◌}
use lib.ListN.{length}
use lib.Seq.{length-take-le}
use Rattle.format.specs.Answers.{outcome_of}
use Rattle.plan.specs.Told.{plan_told}
use Rattle.std.specs.Prelude.{Ok}
use Rattle.round_trip.specs.Told.{trip_told}
use Rattle.round_trip.proofs.Claims.{claimed}
use Rattle.round_trip.proofs.Ends.{Wrote, not-planned, wrote, not_written, written-there, read_back}
use Rattle.round_trip.proofs.round_trip.Goals as goal
use Rattle.round_trip.proofs.round_trip.Goals.{After-encode_integers-written, In-Ok-written}

pub returns-in_default : goal.returns-in_default
returns-in_default c =
    let a = c.args in
    let ends = not-planned a.level a.column.now a.scratch.now a.out.now a.back.now c.analyze-planned.ensures.value c.analyze-planned.ensures.scratch_after (ap (λ r. (plan_told r).answer) c.in_default.is) (ap trip_told c.ended.ensures) in
    record { value = ends.trip-is; scratch_after = ends.scratch-is; out_after = ends.output-is; back_after = ends.buffer-is; claim = claimed c.read_all.ensures ends }

-- writing has answered
writing : (c : After-encode_integers-written) → let a = c.args in Wrote a.level a.column.now a.scratch.now a.out.now
    (plan_told (Ok c.in-Ok.found)) c.from-number.result (outcome_of c.encode_integers-written.result) c.encode_integers-written.new.scratch c.encode_integers-written.new.out
writing c =
    let a = c.args in
    wrote a.level a.column.now a.scratch.now a.out.now c.in-Ok.ensures.value c.analyze-planned.ensures.scratch_after refl
    (c.from-number.ensures ∙ c.id.ensures) (c.encode_integers-written.ensures.value, (c.encode_integers-written.ensures.scratch_after, c.encode_integers-written.ensures.out_after))

pub returns-in_default-written : goal.returns-in_default-written
returns-in_default-written c =
    let a = c.args in
    let ends = not_written _ _ _ _ (writing (goal.at.returns-in_default-written c).After-encode_integers-written) a.back.now (ap outcome_of c.in_default-written.is) (ap trip_told c.ended-in_default-written.ensures) in
    record { value = ends.trip-is; scratch_after = ends.scratch-is; out_after = ends.output-is; back_after = ends.buffer-is; claim = claimed c.read_all.ensures ends }

-- the bytes that writing stored are there
there : (c : In-Ok-written) → c.in-Ok-written.stored ≤ length c.encode_integers-written.new.out
there c = written-there _ _ _ _ (writing (goal.at.In-Ok-written c).After-encode_integers-written) c.args.back.now (ap outcome_of c.in-Ok-written.is)

pub slice_bounds-decode_either-end : goal.slice_bounds-decode_either-end
slice_bounds-decode_either-end c = there (goal.at.slice_bounds-decode_either-end c).In-Ok-written

pub returns : goal.returns
returns c =
    let a = c.args in
    let ends = read_back _ _ _ _ (writing (goal.at.returns c).After-encode_integers-written) a.back.now (ap outcome_of c.in-Ok-written.is) c.read_all.ensures a.naming a.strict
    c.then_some-name.ensures (c.decode_either-read.ensures.value, c.decode_either-read.ensures.column_after) in
    record { value = ends.trip-is; scratch_after = ends.scratch-is; out_after = ends.output-is; back_after = ends.buffer-is; claim = claimed c.read_all.ensures ends }

pub slice_bounds-decode_either-end-2 : goal.slice_bounds-decode_either-end-2
slice_bounds-decode_either-end-2 c = sym (length-take-le _ _ (there (goal.at.slice_bounds-decode_either-end-2 c).In-Ok-written))
