-- Eight bytes a value.
use Rattle.format.specs.Chunk.{body_of}
use Rattle.format.proofs.Lengths.Parts.{length-plain_body}
use Rattle.plain.proofs.PlainEncoder.lacking.Goals as goal

pub returns : goal.returns
unfolding body_of
returns c = rw (length-plain_body c.args.column.values.now) c.lacking_for.ensures
