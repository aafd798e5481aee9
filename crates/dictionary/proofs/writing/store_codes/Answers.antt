-- The guesses are few enough for their bytes to be counted.
use native.Mathlib.Omega.{arith}
use Rattle.dictionary.proofs.writing.store_codes.Goals as goal

pub pack_by-requires-room-C-Coding : goal.pack_by-requires-room-C-Coding
pack_by-requires-room-C-Coding g c κs = omega (arith, c.requires.some.1)
