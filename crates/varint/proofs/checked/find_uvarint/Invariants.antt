-- `varint::checked::find_uvarint` meets its contract: where ten bytes are there, `Reading` holds of the first k before turn k; elsewhere the varint is read.
use Rattle.std.proofs.Common.{◌+◌, ◌-◌, ◌*◌, ◌≤◌, length}
use Rattle.varint.specs.Reading.{Reading}
use Rattle.varint.proofs.checked.find_uvarint.Given as goal

abbrev pub invariant-loop-k : goal.invariant-loop-k
invariant-loop-k l = (l.k ≤ 8) × (l.at + 10 ≤ length l.bytes) × Reading l.bytes l.at l.value (l.at + l.k) (7 * l.k)

abbrev pub decreases-loop-k : goal.decreases-loop-k
decreases-loop-k l = 8 - l.k
