-- The bytes counted, then those that are left, are all that end a varint.
use mathlib.Core.Path.{◌≡◌}
use Prim.Native.Nat.{◌+◌, ◌≤◌}
use lib.ListN.{length, drop}
use Rattle.varints.specs.Scans.{lasts}
use Rattle.varints.proofs.scan.last_bytes.Given as goal

abbrev pub invariant-loop-byte : goal.invariant-loop-byte
invariant-loop-byte l = (l.byte-index ≤ length l.bytes) × (l.count ≤ l.byte-index) × (l.count + lasts (drop l.byte-index l.bytes) ≡ lasts l.bytes)
