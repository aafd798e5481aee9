-- The eight bytes of the least value, then the width byte and the packed differences after them, are the body.
use mathlib.Core.Path.{◌≡◌, ◌∙◌, ap}
use mathlib.Core.List.{map}
use Prim.Native.Nat.{ℕ, ◌+◌, ◌<◌}
use native.Mathlib.Omega.{arith}
use lib.ListN.{length, length-set}
use lib.Seq.{sets}
use borrow.Author.Rules.{rules}
use Rattle.std.specs.Prelude.{Some}
use Rattle.format.specs.Keys.{Key, gap, key_bytes}
use Rattle.format.specs.Packing.{packed}
use Rattle.format.proofs.Numbers.Keys.{length-key_bytes}
use Rattle.number.proofs.Signed.{held}
use Rattle.places.proofs.Placing.{Put, bytes_put, put_some}
use Rattle.frame.proofs.Body.{body_length, body_is, key_end, parts-stored}
use Rattle.frame.proofs.FrameOfReferenceEncoder.store.Goals as goal
use Rattle.frame.proofs.FrameOfReferenceEncoder.store.Goals.{After-put_key}

put : (c : After-put_key) → Put (key_bytes c.args.fit.least) c.args.out.now c.args.at c.put_key.new.out c.put_key.result
put c =
    let least = c.args.fit.least in
    let key : Key least = search rules in
    let long = body_length c.args.column.values.now c.requires.measured in
    let value = rw (held least key) at c.put_key.ensures.value in
    let out = rw (held least key) at c.put_key.ensures.out_after in
    bytes_put c.args.at c.args.out.now (key_bytes least) (omega (arith, c.requires.room, long, length-key_bytes least)) (value, out)

place : (c : After-put_key) {next : ℕ} → c.put_key.result ≡ Some next → next ≡ c.args.at + 8
place c found = key_end c.args.fit.least c.args.out.now c.args.at (put c) found

pub unwrap-next-requires : goal.unwrap-next-requires
unwrap-next-requires c = put_some _ _ (put (goal.at.unwrap-next-requires c).After-put_key).0

pub bounds-out-next : goal.bounds-out-next
bounds-out-next c =
    omega (arith, place (goal.at.bounds-out-next c).After-put_key c.unwrap-next.ensures, body_length c.args.column.values.now c.requires.measured, c.requires.room, c.put_key.auto.out)

pub overflow_add-next : goal.overflow_add-next
overflow_add-next c =
    let small : length c.args.out.now < 18446744073709551616 = search rules in
    omega (arith, place (goal.at.overflow_add-next c).After-put_key c.unwrap-next.ensures, body_length c.args.column.values.now c.requires.measured, c.requires.room, small)

pub pack_by-requires : goal.pack_by-requires
pack_by-requires c =
    let next = place (goal.at.pack_by-requires c).After-put_key c.unwrap-next.ensures in
    simp length-set (omega (arith, next, body_length c.args.column.values.now c.requires.measured, c.requires.room, c.put_key.auto.out))

pub returns-clause-out_after : goal.returns-clause-out_after
returns-clause-out_after c =
    let a = c.args in
    let fit = a.fit in
    let key : Key fit.least = search rules in
    let there = put (goal.at.returns-clause-out_after c).After-put_key in
    let out = rw (held fit.least key) at c.pack_by.ensures in
    parts-stored fit.least a.out.now a.at there c.unwrap-next.ensures fit.width.bits (packed fit.width.bits (map (gap fit.least) a.column.values.now)) out
    ∙ ap (sets a.out.now a.at) (body_is a.column.values.now c.requires.measured)
