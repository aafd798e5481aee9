-- Each turn reads a varint and stores its entry: the entries of the varints that are left are still to come, and they lead to where the whole row leads.
use mathlib.Core.Path.{◌≡◌}
use Prim.Native.Nat.{◌+◌, ◌-◌}
use lib.ListN.{length}
use Rattle.format.specs.Varint.{uvarint_values, after_uvarints}
use Rattle.format.proofs.Numbers.Stores.{Storing}
use Rattle.dictionary.specs.Reading.{AllRead, entries_at}
use Rattle.dictionary.proofs.lookup.load.Given as goal

abbrev pub invariant-loop-i : goal.invariant-loop-i
invariant-loop-i l = AllRead l.fn.row.chunk.now l.at (length l.initial.table - l.i) × (after_uvarints l.fn.row.chunk.now l.at (length l.initial.table - l.i) ≡ after_uvarints l.fn.row.chunk.now l.fn.row.start (length l.initial.table))
    × Storing (entries_at l.done l.before (uvarint_values l.fn.row.chunk.now l.fn.row.start (length l.initial.table))) l.initial.table 0
    (entries_at (l.done + l.i) l.last (uvarint_values l.fn.row.chunk.now l.at (length l.initial.table - l.i))) l.table l.i
