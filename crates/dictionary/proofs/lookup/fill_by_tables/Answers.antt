-- Each turn reads a table of entries and stores the values of their codes (`Tables`).
use mathlib.Core.Path.{◌≡◌, refl, ap, ◌∙◌}
use mathlib.Core.List.{List, ◌++◌}
use Prim.Native.Nat.{◌+◌, ◌-◌, ◌<◌, ◌≤◌}
use native.Mathlib.Omega.{arith}
use lib.IntN.{ℤ, pos}
use lib.ListN.{length, take, drop, get_or, length-append, length-drop, length-replicate, get_or-append}
use lib.Seq.{sets, length-take-le, take_at}
use mir.Syntax.{w64}
use mir.Facts.{to_z-of_z}
use borrow.Author.Rules.{rules}
use Rattle.format.specs.Varint.{after_uvarints}
use Rattle.places.specs.Blocks.{to_come}
use Rattle.dictionary.specs.Reading.{picked_all}
use Rattle.dictionary.proofs.ReadEntries.{read-front, read-rest}
use Rattle.dictionary.proofs.Tables.{Filled, filled_none, filled_more, filled-done}
use Rattle.dictionary.proofs.lookup.fill_by_tables.Goals.{After-min-held, After-load-at, After-fill_by}
use Rattle.dictionary.proofs.lookup.fill_by_tables.Goals as goal

-- the part of the table that a turn fills
held : (g : _) (c : After-min-held g) → length (take c.min-held.result c.loop-done.table) ≡ c.min-held.result
held g c = length-take-le c.min-held.result c.loop-done.table (omega (arith, c.min-held.ensures, c.loop-done.invariant.0))

loaded : (g : _) (c : After-load-at g) → length c.load-at.new.table ≡ c.min-held.result
loaded g c = c.load-at.auto.table ∙ held g (goal.at.After-load-at g c).After-min-held

long : (g : _) (c : After-load-at g)
    → length (c.load-at.new.table ++ drop c.min-held.result c.loop-done.table) ≡ g.row.N
long g c =
    let part = c.load-at.new.table in
    let table = c.loop-done.table in
    let n = c.min-held.result in
    omega (arith, length-append part (drop n table), length-drop n table, loaded g c, c.min-held.ensures, c.loop-done.invariant.0)

-- a turn has an entry at least
some : (g : _) (c : After-load-at g) → 0 < c.min-held.result
some g c =
    omega (arith, c.min-held.ensures, c.loop-done-test.true, c.requires.some.0)

-- and stores the values of its codes
more : (g : _) (c : After-fill_by g) {newest : ℤ}
    → let n = c.min-held.result in
    newest ≡ get_or c.load-at.new.table (n - 1) (pos 0)
    → Filled c.args.entries.chunk.now c.args.entries.start c.args.entries.count (to_come c.args.codes) c.args.column.now
    c.fill_by.new.column c.load-at.result newest (c.loop-done.done + n)
more g c newest =
    let l = c.loop-done in
    let chunk = c.args.entries.chunk.now in
    let window = c.load-at.new.table in
    let n = c.min-held.result in
    let wide : length (take n l.table) ≡ n = held g (goal.at.After-fill_by g c).After-min-held in
    let place = c.load-at.ensures.value ∙ ap (after_uvarints chunk l.at) wide in
    let entries = rw wide at c.load-at.ensures.table_after in
    let there = loaded g (goal.at.After-fill_by g c).After-load-at in
    let out = c.fill_by.ensures ∙ ap (λ (t : List ℤ). sets l.column 0 (picked_all l.done t (to_come c.args.codes) l.column)) (take_at window (drop n l.table) n there) in
    let most : l.done + n ≤ c.args.entries.count = omega (arith, c.min-held.ensures, c.loop-done-test.true) in
    filled_more _ _ l.invariant.2 most (some g (goal.at.After-fill_by g c).After-load-at) place entries newest out

-- the last entry of the part is the table's at that place
latest : (g : _) (c : After-load-at g)
    → let n = c.min-held.result in
    get_or (c.load-at.new.table ++ drop n c.loop-done.table) (n - 1) (pos 0) ≡ get_or c.load-at.new.table (n - 1) (pos 0)
latest g c =
    let window = c.load-at.new.table in
    get_or-append window _ (pos 0) (c.min-held.result - 1) (omega (arith, loaded g c, some g c))

pub loop-done-init : goal.loop-done-init
loop-done-init g c = (length-replicate _ _, refl, filled_none _ _ c.requires.there.1)

pub loop-done-preserved : goal.loop-done-preserved
loop-done-preserved g c =
    let next : c.loop-done.done + c.min-held.result ≡ c.loop-done.done + g.row.N = omega (arith, c.min-held.ensures) in
    let newest = to_z-of_z {w = w64} (record { sfits = (search rules) }) ∙ latest g (goal.at.loop-done-preserved g c).After-load-at in
    (long g (goal.at.loop-done-preserved g c).After-load-at, c.fill_by.auto.column ∙ c.loop-done.invariant.1, rw next at (more g (goal.at.loop-done-preserved g c).After-fill_by newest))

pub invariant_of-part : goal.invariant_of-part
invariant_of-part g c =
    let l = c.loop-done in
    let n = c.min-held.result in
    let most : l.done ≤ c.args.entries.count = omega (arith, c.loop-done-test.true) in
    let rest = rw (← l.invariant.2.place) at (read-rest c.args.entries.chunk.now c.args.entries.start l.done c.args.entries.count most c.args.entries.read) in
    record { read = read-front c.args.entries.chunk.now l.at n (c.args.entries.count - l.done) (omega (arith, c.min-held.ensures)) rest }

pub whole_as_front-load : goal.whole_as_front-load
whole_as_front-load g c = omega (arith, c.min-held.ensures, c.requires.some.1)

pub returns : goal.returns
returns g c = filled-done _ _ c.loop-done.invariant.2 c.loop-done-test.false

pub returns-2 : goal.returns-2
returns-2 g c =
    let newest = to_z-of_z {w = w64} (record { sfits = (search rules) }) ∙ latest g (goal.at.returns-2 g c).After-load-at in
    filled-done _ _ (more g (goal.at.returns-2 g c).After-fill_by newest) (omega (arith, c.min-held.ensures))
