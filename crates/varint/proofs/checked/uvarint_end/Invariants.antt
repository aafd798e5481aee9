-- `varint::checked::uvarint_end` meets its contract: where ten bytes are there, none of the first k is the last before turn k; elsewhere the varint is read.
use Rattle.std.proofs.Common.{◌+◌, ◌-◌, ◌≤◌, length}
use Rattle.varint.specs.Finding.{Walked}
use Rattle.varint.proofs.checked.uvarint_end.Given as goal

abbrev pub invariant-loop-k : goal.invariant-loop-k
invariant-loop-k l = (l.k ≤ 8) × (l.at + 10 ≤ length l.bytes) × Walked l.bytes l.at l.k

abbrev pub decreases-loop-k : goal.decreases-loop-k
decreases-loop-k l = 8 - l.k
