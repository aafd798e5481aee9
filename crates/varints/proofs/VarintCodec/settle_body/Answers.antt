-- A body that passes is not looked at where the reading is not strict; else each varint is asked.
use mathlib.Core.Path.{ap}
use Rattle.format.specs.Chunk.{validate_body}
use Rattle.format.specs.Parts.{settled}
use Rattle.format.specs.VarintBody.{validate_varint_body}
use Rattle.varints.proofs.Scanning.{settled-passed}
use Rattle.varints.proofs.VarintCodec.settle_body.Goals as goal

pub returns-then-readable : goal.returns-then-readable
unfolding validate_body validate_varint_body
returns-then-readable c =
    let h = c.args.body.header in
    settled-passed c.args.body.chunk.now h.start h.count c.if-not-strict.true (c.readable.ensures c.if-readable.true) _ h.padded

pub returns : goal.returns
unfolding validate_body validate_varint_body
returns c room = ap (settled _ _ _ room) (rw c.before-before.ensures at c.settle_uvarints.ensures)
