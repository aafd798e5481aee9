use mathlib.Core.Path.{ap}
use Prim.Native.Nat.{◌+◌}
use native.Mathlib.Omega.{arith}
use Rattle.format.specs.Chunk.{body_of}
use Rattle.delta.proofs.DeltaBinaryPackedEncoder.store.Goals as goal

pub store-requires : goal.store-requires
unfolding body_of
store-requires c = c.requires.room

pub overflow_add-result : goal.overflow_add-result
unfolding body_of
overflow_add-result c = omega (arith, c.requires.room, c.requires.measured)

pub returns : goal.returns
unfolding body_of
returns c = record { value = ap (λ n. c.args.at + n) c.requires.measured; out_after = c.store.ensures }
