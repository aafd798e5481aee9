-- What the machine computes, in the terms of the definitions: a test of two keys, which it reads back from their bits.
use mathlib.Core.Path.{◌≡◌}
use Prim.Native.Nat.{◌^◌, ◌<◌}
use lib.IntN.{ℤ}
use lib.Signed.{mag, lt_z}
use mir.Syntax.{w64}
use mir.Val.{SFits, to_z, of_z}
use mir.Facts.{to_z-of_z}

-- a key that was read from a slice
pub read_back : {v : ℤ} → mag v < 2 ^ 63 → to_z w64 (of_z w64 v) ≡ v
read_back h = to_z-of_z {w = w64} (record { sfits = h })

-- a test of two keys
pub compared : {a b : ℤ} → SFits w64 a → SFits w64 b → lt_z (to_z w64 (of_z w64 a)) (to_z w64 (of_z w64 b)) ≡ lt_z a b
compared f g = rw (to_z-of_z f, to_z-of_z g)
