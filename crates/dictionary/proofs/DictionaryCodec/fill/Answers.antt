use Rattle.format.specs.Chunk.{validate_body, body_values}
use Rattle.codec.proofs.Reading.{stored-sets}
use Rattle.dictionary.proofs.Questions.{body-passed}
use Rattle.dictionary.proofs.DictionaryCodec.fill.Goals as goal

pub fill-requires : goal.fill-requires
unfolding validate_body
fill-requires c =
    let a = c.args in
    let v = c.requires.passed in
    (c.requires.room, body-passed a.body.chunk.now a.body.header.start a.body.header.count a.body.header.padded v.few v.passed)

pub returns : goal.returns
unfolding body_values
returns c = stored-sets c.requires.passed c.args.column.now c.requires.room c.fill.ensures
