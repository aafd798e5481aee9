-- The width byte and the packed ZigZags are the body.
use native.Mathlib.Omega.{arith}
use lib.ListN.{length-set}
use Rattle.bitpacked.proofs.Body.{body_length}
use Rattle.bitpacked.proofs.BitPackedEncoder.store.Goals as goal

pub bounds-out-at : goal.bounds-out-at
bounds-out-at c = omega (arith, c.requires.room, body_length c.args.column.values.now c.requires.measured)

pub pack_by-requires : goal.pack_by-requires
pack_by-requires c = simp length-set (omega (arith, c.requires.room, body_length c.args.column.values.now c.requires.measured))
