-- A body that was passed lies inside the chunk: the least value is read, and then the packed differences from it, which are to come.
use mathlib.Core.Path.{◌≡◌, ap}
use Prim.Native.Nat.{◌+◌}
use native.Mathlib.Omega.{arith}
use lib.ListN.{length, get_or}
use Rattle.format.specs.Chunk.{body_values}
use Rattle.format.specs.Frame.{frame_values}
use Rattle.format.proofs.Codecs.Counts.{length-packed_values}
use Rattle.number.proofs.Signed.{held}
use Rattle.frame.proofs.Body.{body-inside}
use Rattle.frame.proofs.FrameOfReferenceCodec.fill.Goals as goal

pub new-blocks-requires : goal.new-blocks-requires
new-blocks-requires c = body-inside c.requires.passed

pub fill_by-requires : goal.fill_by-requires
fill_by-requires c =
    let s = c.args.body.chunk.now in
    let h = c.args.body.header in
    omega (arith, ap length c.new-blocks.ensures.values, length-packed_values s (h.start + 8 + 1) (get_or s (h.start + 8) 0) h.count, c.requires.room)

pub returns : goal.returns
unfolding body_values frame_values
returns c =
    let k = c.key_at in
    let nine : c.args.body.header.start + 8 + 1 ≡ c.args.body.header.start + 9 = omega arith in
    rw (held k.result k.type_inv, k.ensures, c.new-blocks.ensures.values, nine) at c.fill_by.ensures
