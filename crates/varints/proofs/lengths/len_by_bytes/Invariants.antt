-- After the pass for the k-th byte `len` is the length where no varint counts more than k bytes; at the longest varint's length that is the length of all.
use mathlib.Core.Path.{◌≡◌}
use Prim.Native.Nat.{◌≤◌}
use Rattle.format.specs.Varint.{uvarint_len}
use Rattle.varints.specs.Lengths.{capped}
use Rattle.varints.proofs.lengths.len_by_bytes.Given as goal

abbrev pub invariant-loop-k : goal.invariant-loop-k
invariant-loop-k l = (l.k-end ≡ uvarint_len l.bits) × (1 ≤ l.k) × (l.k ≤ l.k-end) × (l.len ≡ capped l.k l.fn.column.values.now)
