-- The header and then the body are stored where there is room for both.
use mathlib.Core.Path.{refl, ap, ◌∙◌}
use borrow.Author.Rules.{rules}
use Rattle.format.specs.Outcome.{ok}
use Rattle.codec.proofs.Writing.{header-there, body-room, body_end, chunk-stored, write-many, write-short, write_done}
use Rattle.codec.proofs.chunk.encode_as.Goals as goal

pub returns-in_err-column-clause-value : goal.returns-in_err-column-clause-value
returns-in_err-column-clause-value g c room =
    let many = (write-many g.C.Codec.ENCODING c.args.column.now room c.args.out.now c.in_err-column.ensures.1).0 in
    search (rules, many)

pub returns-in_err-column-clause-out_after : goal.returns-in_err-column-clause-out_after
returns-in_err-column-clause-out_after g c room =
    (write-many g.C.Codec.ENCODING c.args.column.now room c.args.out.now c.in_err-column.ensures.1).1

pub returns-in-Some-clause-value : goal.returns-in-Some-clause-value
returns-in-Some-clause-value g c room =
    let column = c.in_ok-column in
    let short = rw column.ensures at c.in-Some.ensures in
    rw (c.at.ensures, short.0) (write-short g.C.Codec.ENCODING c.args.column.now room c.args.out.now (rw column.ensures at column.column.few) g.met.C.Encoder.scratchless refl short.1).0

pub returns-in-Some-clause-out_after : goal.returns-in-Some-clause-out_after
returns-in-Some-clause-out_after g c room =
    let column = c.in_ok-column in
    let short = rw column.ensures at c.in-Some.ensures in
    (write-short g.C.Codec.ENCODING c.args.column.now room c.args.out.now (rw column.ensures at column.column.few) g.met.C.Encoder.scratchless refl short.1).1

pub unwrap-at-requires : goal.unwrap-at-requires
unwrap-at-requires g c =
    let same = c.in_ok-column.ensures in
    let put = rw (c.ENCODING.ensures, same) at c.put_header.ensures in
    header-there g.C.Codec.ENCODING c.args.column.now c.args.out.now refl (rw same at c.in_default.ensures) (put.value, put.out_after)

pub store-requires-clause-room : goal.store-requires-clause-room
store-requires-clause-room g c =
    let same = c.in_ok-column.ensures in
    let put = rw (c.ENCODING.ensures, same) at c.put_header.ensures in
    rw same (body-room g.C.Codec.ENCODING c.args.column.now c.args.out.now refl (rw same at c.in_default.ensures) (put.value, put.out_after) c.unwrap-at.ensures)

pub returns-clause-value : goal.returns-clause-value
returns-clause-value g c room =
    let e = g.C.Codec.ENCODING in
    let column = c.args.column.now in
    let out = c.args.out.now in
    let same = c.in_ok-column.ensures in
    let put = rw (c.ENCODING.ensures, same) at c.put_header.ensures in
    let there = rw same at c.in_default.ensures in
    let done = rw same at c.store.ensures in
    let stored = chunk-stored e column out refl there (put.value, put.out_after) c.unwrap-at.ensures done.out_after in
    ap ok (done.value ∙ body_end e column out refl there (put.value, put.out_after) c.unwrap-at.ensures)
    ∙ (write_done e column room out (rw same at c.in_ok-column.column.few) g.met.C.Encoder.scratchless refl there stored).0

pub returns-clause-out_after : goal.returns-clause-out_after
returns-clause-out_after g c room =
    let e = g.C.Codec.ENCODING in
    let column = c.args.column.now in
    let out = c.args.out.now in
    let same = c.in_ok-column.ensures in
    let put = rw (c.ENCODING.ensures, same) at c.put_header.ensures in
    let there = rw same at c.in_default.ensures in
    let stored = chunk-stored e column out refl there (put.value, put.out_after) c.unwrap-at.ensures (rw same at c.store.ensures.out_after) in
    (write_done e column room out (rw same at c.in_ok-column.column.few) g.met.C.Encoder.scratchless refl there stored).1
