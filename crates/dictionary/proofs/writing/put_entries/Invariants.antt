-- The varints taken are stored, and those that are left are to come.
use Rattle.format.specs.Dictionary.{entry_bytes}
use Rattle.format.proofs.Numbers.Stores.{Storing}
use Rattle.entries.specs.Gaps.{to_come}
use Rattle.entries.proofs.Walking.{bytes_of}
use Rattle.dictionary.proofs.writing.put_entries.Given as goal

abbrev pub invariant-loop-number : goal.invariant-loop-number
invariant-loop-number l = Storing (entry_bytes l.entries) l.initial.out l.start (bytes_of (to_come l.number-iterator)) l.out l.at
