-- The body's answer is that of its questions as far as this reading asks, and only a body that was passed is stored.
use mathlib.Core.Path.{◌≡◌, sym, ◌∙◌}
use lib.ListN.{length}
use borrow.Author.Rules.{rules}
use Rattle.format.specs.Outcome.{ok}
use Rattle.format.specs.Chunk.{validate_body}
use Rattle.format.specs.Encodings.{id_of}
use Rattle.format.specs.Header.{named, read_header}
use Rattle.format.specs.Parts.{settled}
use Rattle.codec.proofs.Reading.{read-refused, read-valid, read-filled}
use Rattle.codec.proofs.chunk.decode_as.Goals as goal
use Rattle.codec.proofs.chunk.decode_as.Goals.{In_ok-header, In_ok-count}

-- what was found of the header, and what of all
header : (g : _) (c : In_ok-header g) → read_header (named (id_of g.C.Codec.ENCODING)) c.args.chunk.now ≡ ok c.in_ok-header.header
header g c = sym (rw (c.from.ensures, c.id.ensures, c.ENCODING.ensures) at c.in_ok-header.ensures.told)

asked : (g : _) (c : In_ok-count g) → let h = c.in_ok-header.header in let s = c.args.chunk.now in
    settled c.args.strict s h.count (length c.args.column.now) (validate_body g.C.Codec.ENCODING s h.start h.count h.padded) ≡ ok h.count
asked g c = sym (c.in_ok-extent.ensures (length c.args.column.now)) ∙ sym (rw c.in_ok-count.ensures.counted.0 at c.in_ok-count.ensures.told)

pub returns-in_err-extent-clause-value : goal.returns-in_err-extent-clause-value
returns-in_err-extent-clause-value g c =
    let a = c.args in
    let told = (read-refused g.C.Codec.ENCODING a.strict a.chunk.now a.column.now (header g (goal.at.returns-in_err-extent-clause-value g c).In_ok-header) (c.in_err-extent.ensures (length a.column.now))).0 in
    search (rules, told)

pub returns-in_err-extent-clause-column_after : goal.returns-in_err-extent-clause-column_after
returns-in_err-extent-clause-column_after g c =
    let a = c.args in
    (read-refused g.C.Codec.ENCODING a.strict a.chunk.now a.column.now (header g (goal.at.returns-in_err-extent-clause-column_after g c).In_ok-header) (c.in_err-extent.ensures (length a.column.now))).1

pub fill-requires-clause-passed : goal.fill-requires-clause-passed
fill-requires-clause-passed g c =
    let a = c.args in
    let at = goal.at.fill-requires-clause-passed g c in
    let found = c.in_ok-header.ensures.found in
    read-valid g.C.Codec.ENCODING a.strict a.chunk.now a.column.now (header g at.In_ok-header) found.0 found.1 (asked g at.In_ok-count)

pub returns-clause-column_after : goal.returns-clause-column_after
returns-clause-column_after g c =
    let a = c.args in
    let at = goal.at.returns-clause-column_after g c in
    let found = c.in_ok-header.ensures.found in
    (read-filled g.C.Codec.ENCODING a.strict a.chunk.now a.column.now (header g at.In_ok-header) found.0 found.1 (asked g at.In_ok-count) c.in_ok-count.ensures.counted.1 c.fill.ensures).1
