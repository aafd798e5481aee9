-- Keys in a row, each once.
use mathlib.Core.Path.{◌∙◌}
use Rattle.format.specs.Chunk.{body_values}
use Rattle.codec.proofs.Reading.{stored-sets}
use Rattle.keys.proofs.Bodies.{all-alone}
use Rattle.varints.proofs.VarintCodec.fill.Goals as goal

pub returns : goal.returns
unfolding body_values
returns c =
    let a = c.args in
    let v = c.requires.passed in
    stored-sets v a.column.now c.requires.room (c.fill_keys.ensures ∙ all-alone a.body.chunk.now a.body.header.start a.body.header.count a.column.now v.few c.requires.room)
