-- The entries' total and the place of the width byte are read again, and the tables do the rest for the entries that the codes can name.
use mathlib.Core.Path.{◌≡◌}
use Prim.Native.Nat.{◌≤◌}
use native.Mathlib.Omega.{arith}
use lib.ListN.{length}
use Rattle.format.proofs.Codecs.Counts.{length-packed_values}
use Rattle.varint.specs.Finding.{found_at}
use Rattle.places.specs.Packed.{Inside}
use Rattle.places.specs.Blocks.{to_come}
use Rattle.dictionary.specs.Reading.{AllRead}
use Rattle.dictionary.proofs.ReadEntries.{read-value, read-front}
use Rattle.dictionary.proofs.Tables.{body-values}
use Rattle.dictionary.proofs.lookup.fill.Goals.{After-unwrap-total, After-in_reach, After-end-place, After-new-codes}
use Rattle.dictionary.proofs.lookup.fill.Goals as goal

pub unwrap-total-requires : goal.unwrap-total-requires
unwrap-total-requires c = rw c.find_any.ensures c.requires.1.total

-- what was found is what was read
total : (c : After-unwrap-total) → c.unwrap-total.result ≡ found_at c.args.body.chunk.now c.args.body.header.start
total c = read-value _ _ c.find_any.ensures c.unwrap-total.ensures

read : (c : After-unwrap-total) → AllRead c.args.body.chunk.now c.unwrap-total.result.next c.unwrap-total.result.value
read c = rw (total c) c.requires.1.read

pub invariant_of-all : goal.invariant_of-all
invariant_of-all c = record { read = read c }

-- the codes are there
there : (c : After-end-place) → Inside c.args.body.chunk.now c.end-place.result c.args.body.header.count
there c = rw (c.end-place.ensures, total (goal.at.After-end-place c).After-unwrap-total) c.requires.1.codes

pub bounds-chunk-place : goal.bounds-chunk-place
bounds-chunk-place c = (there (goal.at.bounds-chunk-place c).After-end-place).there

pub new-codes-requires : goal.new-codes-requires
new-codes-requires c = there (goal.at.new-codes-requires c).After-end-place

-- ---- the entries that they can name

named : (c : After-in_reach) → AllRead c.args.body.chunk.now c.unwrap-total.result.next c.in_reach.result
named c = read-front _ _ _ _ (omega (arith, c.in_reach.ensures)) (read (goal.at.After-in_reach c).After-unwrap-total)

pub invariant_of-entries : goal.invariant_of-entries
invariant_of-entries c = record { read = named (goal.at.invariant_of-entries c).After-in_reach }

pub invariant_of-entries-else-entries-le256 : goal.invariant_of-entries-else-entries-le256
invariant_of-entries-else-entries-le256 c = record { read = named (goal.at.invariant_of-entries-else-entries-le256 c).After-in_reach }

room : (c : After-new-codes) → (c.in_reach.result ≤ length c.args.body.chunk.now) × (length (to_come c.new-codes.result) ≤ length c.args.column.now)
room c =
    let most : c.unwrap-total.result.value ≤ length c.args.body.chunk.now = rw (total (goal.at.After-new-codes c).After-unwrap-total) c.requires.1.entries in
    (omega (arith, c.in_reach.ensures, most), rw (c.new-codes.ensures.values, length-packed_values _ _ _ _) c.requires.0)

pub fill_by_tables-requires-clause-there : goal.fill_by_tables-requires-clause-there
fill_by_tables-requires-clause-there c = room (goal.at.fill_by_tables-requires-clause-there c).After-new-codes

pub fill_by_tables-requires-else-entries-le256-clause-there : goal.fill_by_tables-requires-else-entries-le256-clause-there
fill_by_tables-requires-else-entries-le256-clause-there c = room (goal.at.fill_by_tables-requires-else-entries-le256-clause-there c).After-new-codes

pub returns-then-entries-le256 : goal.returns-then-entries-le256
returns-then-entries-le256 c =
    body-values c.requires.1 (total (goal.at.returns-then-entries-le256 c).After-unwrap-total) c.end-place.ensures (rw c.from.ensures at c.in_reach.ensures)
    c.args.column.now c.requires.0 (rw c.new-codes.ensures.values at c.fill_by_tables.ensures)

pub returns-else-entries-le256 : goal.returns-else-entries-le256
returns-else-entries-le256 c =
    body-values c.requires.1 (total (goal.at.returns-else-entries-le256 c).After-unwrap-total) c.end-place.ensures (rw c.from.ensures at c.in_reach.ensures)
    c.args.column.now c.requires.0 (rw c.new-codes.ensures.values at c.fill_by_tables-else-entries-le256.ensures)
