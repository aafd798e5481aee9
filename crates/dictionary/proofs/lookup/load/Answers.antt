-- Each turn reads a varint and stores its entry: the entries of the varints that are left are still to come, and they lead to where the whole row leads.
use mathlib.Core.Path.{◌≡◌, refl, sym, ap, ◌∙◌}
use Prim.Native.Nat.{◌<◌, ◌≤◌}
use native.Mathlib.Omega.{arith}
use lib.IntN.{ℤ}
use lib.ListN.{length}
use mir.Syntax.{w64}
use mir.Val.{to_z, of_z}
use mir.Facts.{to_z-of_z}
use Rattle.format.specs.Varint.{uvarint_values}
use Rattle.varint.specs.declared.find.Found.{Found}
use Rattle.dictionary.specs.Reading.{entry_at, entries_at}
use Rattle.dictionary.proofs.ReadEntries.{read_some, read-value, read_next, after_step, after_end, load_step, load-done, length-entries, length-values}
use Rattle.dictionary.proofs.lookup.load.Goals.{After-find_any}
use Rattle.dictionary.proofs.lookup.load.Goals as goal

-- an entry is left
under : (c : After-find_any) → c.loop-i.i < length c.args.table.now
under c = omega (arith, c.loop-i-test.true, c.loop-i.invariant.2.long)

pub unwrap-gap-requires : goal.unwrap-gap-requires
unwrap-gap-requires c = read_some _ c.loop-i.at (let h = under (goal.at.unwrap-gap-requires c).After-find_any in omega arith) c.loop-i.invariant.0 c.find_any.ensures

pub loop-i-preserved : goal.loop-i-preserved
loop-i-preserved c =
    let l = c.loop-i in
    let gap = read-value c.args.row.chunk.now l.at c.find_any.ensures c.unwrap-gap.ensures in
    let entry = c.entry_at-last.ensures ∙ ap (entry_at _ _) (ap (λ (f : Found). f.value) gap) in
    let back : to_z w64 (of_z w64 c.entry_at-last.result) ≡ c.entry_at-last.result = to_z-of_z {w = w64} (record { sfits = c.entry_at-last.type_inv }) in
    let more = under (goal.at.loop-i-preserved c).After-find_any in
    rw (gap, back)
    (read_next _ l.at more l.invariant.0, after_step c.args.row.chunk.now l.at more ∙ l.invariant.1, load_step _ _ _ _ _ _ more l.invariant.2 entry)

pub returns : goal.returns
returns c =
    let l = c.loop-i in
    let chunk = c.args.row.chunk.now in
    let n = length c.args.table.now in
    let over : n ≤ l.i = omega (arith, c.loop-i-test.false, l.invariant.2.long) in
    let whole = uvarint_values chunk c.args.row.start n in record {
      value = sym (after_end chunk l.at over) ∙ l.invariant.1;
      table_after = load-done chunk l.at n l.i c.args.done _ over refl
          (length-entries c.args.done _ whole ∙ length-values chunk c.args.row.start n) l.invariant.2
          ∙ ap (λ (b : ℤ). entries_at c.args.done b whole) (to_z-of_z c.ranges.before);
    }
