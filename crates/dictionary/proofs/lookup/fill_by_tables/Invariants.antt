-- Each turn reads a table of entries and stores the values of their codes (`Tables`).
use mathlib.Core.Path.{◌≡◌}
use lib.ListN.{length}
use Rattle.places.specs.Blocks.{to_come}
use Rattle.dictionary.proofs.Tables.{Filled}
use Rattle.dictionary.proofs.lookup.fill_by_tables.Given as goal

abbrev pub invariant-loop-done : goal.invariant-loop-done
invariant-loop-done g l = (length l.table ≡ g.row.N) × (length l.column ≡ length l.initial.column)
    × Filled l.fn.entries.chunk.now l.fn.entries.start l.fn.entries.count (to_come l.codes) l.initial.column l.column l.at l.last l.done
