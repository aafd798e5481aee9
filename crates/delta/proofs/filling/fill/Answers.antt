-- `filling::fill` meets its contract: the first value is stored, and the others behind it by the deltas of the blocks. Both varints were read before.
use mathlib.Core.Path.{◌≡◌, sym, ap, ◌∙◌}
use native.Mathlib.Omega.{arith}
use lib.ListN.{length-set}
use Rattle.format.specs.Outcome.{ok}
use Rattle.format.specs.Answers.{outcome_of}
use Rattle.format.specs.Varint.{read_uvarint}
use Rattle.format.specs.Standalone.{read_varint}
use Rattle.number.proofs.Signed.{held}
use Rattle.delta.proofs.Held.{key-read}
use Rattle.delta.proofs.There.{is_read}
use Rattle.delta.proofs.Body.{first-there, size-there, blocks-there, values-stored, none-stored}
use Rattle.delta.proofs.filling.fill.Goals as goal
use Rattle.delta.proofs.filling.fill.Goals.{After-unwrap-first, After-unwrap-size}

pub returns-then-header-eq0 : goal.returns-then-header-eq0
returns-then-header-eq0 c =
    let b = c.args.body in
    none-stored b.chunk.now b.header.start b.header.count c.args.column.now c.if-header-eq0.true

pub unwrap-first-requires : goal.unwrap-first-requires
unwrap-first-requires c =
    let b = c.args.body in
    is_read _ c.read_varint.ensures (first-there b.chunk.now b.header.start b.header.count (omega arith) c.requires.1)

first : (c : After-unwrap-first) → read_varint c.args.body.chunk.now c.args.body.header.start ≡ ok c.unwrap-first.result
first c = sym c.read_varint.ensures ∙ ap outcome_of c.unwrap-first.ensures

pub unwrap-size-requires : goal.unwrap-size-requires
unwrap-size-requires c =
    let b = c.args.body in
    is_read _ c.read_uvarint.ensures (size-there b.chunk.now b.header.start b.header.count (omega arith) c.requires.1 (first (goal.at.unwrap-size-requires c).After-unwrap-first))

size : (c : After-unwrap-size) → read_uvarint c.args.body.chunk.now c.unwrap-first.result.next ≡ ok c.unwrap-size.result
size c = sym c.read_uvarint.ensures ∙ ap outcome_of c.unwrap-size.ensures

pub fill_blocks-requires : goal.fill_blocks-requires
fill_blocks-requires c =
    let b = c.args.body in
    let at = goal.at.fill_blocks-requires c in
    let h = blocks-there b.chunk.now b.header.start b.header.count (omega arith) c.requires.1 (first at.After-unwrap-first) (size at.After-unwrap-size) in
    (h.0, omega (arith, b.few), rw length-set (omega arith), h.1)

pub returns : goal.returns
returns c =
    let b = c.args.body in
    let at = goal.at.returns c in
    let one = first at.After-unwrap-first in
    values-stored b.chunk.now b.header.start b.header.count (omega arith) c.requires.1 one (size at.After-unwrap-size) c.args.column.now c.requires.0
    (rw (held c.unwrap-first.result.value (key-read _ _ one)) at c.fill_blocks.ensures)
