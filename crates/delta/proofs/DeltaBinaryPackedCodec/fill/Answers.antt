use Rattle.format.specs.Chunk.{validate_body, body_values}
use Rattle.codec.proofs.Reading.{stored-sets}
use Rattle.delta.proofs.DeltaBinaryPackedCodec.fill.Goals as goal

pub fill-requires : goal.fill-requires
unfolding validate_body
fill-requires c = let v = c.requires.passed in (c.requires.room, record { padded = c.args.body.header.padded; extent = v.extent; passed = v.passed })

pub returns : goal.returns
unfolding body_values
returns c = stored-sets c.requires.passed c.args.column.now c.requires.room c.fill.ensures
