-- The body has at most nine bytes a value, and few more.
use native.Mathlib.Omega.{arith}
use Rattle.std.proofs.lemmas.Grind.{common_steps}
use Rattle.format.specs.Chunk.{body_of}
use Rattle.delta.proofs.Measured.{body-limit}
use Rattle.delta.proofs.DeltaBinaryPackedEncoder.lacking.Goals as goal

pub lacking_for-requires-clause-short : goal.lacking_for-requires-clause-short
lacking_for-requires-clause-short c = omega (arith, c.requires, c.args.column.few, body-limit c.args.column.values.now)

pub returns : goal.returns
unfolding body_of
returns c = grind (arith, common_steps)
