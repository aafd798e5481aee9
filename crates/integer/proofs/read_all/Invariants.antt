-- `read_all` meets its contract: each turn reads one more value, which is a key.
use Rattle.std.proofs.Common.{ℕ, ◌<◌}
use lib.IntN.{pos}
use lib.ListN.{get_or}
use Rattle.format.specs.Keys.{Key}
use Rattle.integer.proofs.read_all.Given as goal

abbrev pub invariant-loop-key : goal.invariant-loop-key
invariant-loop-key l = (j : ℕ) → j < l._key-index → Key (get_or l.column j (pos 0))
