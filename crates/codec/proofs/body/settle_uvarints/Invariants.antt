-- What is left to be asked is the whole.
use mathlib.Core.Path.{◌≡◌}
use Prim.Native.Nat.{◌-◌}
use Rattle.format.specs.Varint.{validate_uvarints}
use Rattle.codec.proofs.body.settle_uvarints.Given as goal

abbrev pub invariant-loop : goal.invariant-loop
invariant-loop l = validate_uvarints l.chunk l.end (l.n - l.counter) l.padded ≡ validate_uvarints l.chunk l.fn.before.end l.n l.fn.before.padded
