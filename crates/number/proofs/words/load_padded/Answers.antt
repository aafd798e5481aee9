-- Fewer than eight bytes are left: those past them are 0.
use Rattle.std.proofs.Common.{◌<◌, ◌-◌, length, take, drop, arith}
use Rattle.number.proofs.WordDigits.{word_padded}
use Rattle.number.proofs.words.load_padded.Goals as goal

pub returns : goal.returns
returns c =
    let few : length (take (length c.args.bytes.now - c.min.result) (drop c.min.result c.args.bytes.now)) < 8 = omega (arith, c.saturating_sub.ensures, c.min.ensures, c.if-at-saturating_sub.false) in
    word_padded _ _ c.min.ensures few (omega arith)
