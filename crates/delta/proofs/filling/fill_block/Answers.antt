-- The values are stored behind the last one (`Sums`).
use Prim.Native.Nat.{◌+◌, ◌≤◌}
use lib.IntN.{pos}
use native.Mathlib.Omega.{arith}
use lib.ListN.{length, get_or}
use borrow.Author.Rules.{rules}
use Rattle.format.specs.Delta.{prefix_sums}
use Rattle.format.specs.Keys.{Key}
use Rattle.format.proofs.Codecs.Counts.{length-prefix_sums}
use Rattle.number.proofs.Signed.{held}
use Rattle.places.specs.Blocks.{to_come}
use Rattle.delta.specs.Summed.{from_least, summed, running}
use Rattle.delta.proofs.Parts.{length-from_least}
use Rattle.delta.proofs.Sums.{part-filled}
use Rattle.delta.proofs.filling.fill_block.Goals as goal

pub returns : goal.returns
unfolding summed running
returns c =
    let a = c.args in
    let last = get_or a.column.now a.from (pos 0) in
    let key : Key last = search rules in
    let ds = from_least a.least (to_come a.offsets) in
    let room : a.from + 1 + length (prefix_sums last ds) ≤ length a.column.now
    = omega (arith, length-prefix_sums last ds, length-from_least a.least (to_come a.offsets), c.requires) in
    part-filled a.column.now (prefix_sums last ds) (a.from + 1) room (rw (held last key, held a.least c.ranges.least.sfits) at c.fill_by.ensures)
