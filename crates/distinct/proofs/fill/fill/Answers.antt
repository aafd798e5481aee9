-- `fill` meets its contract: each turn keeps `Gathering`, in one of three ways, and its laws say what holds at either end.
use borrow.Author.Rules.{rules}
use mathlib.Core.Bool.{true, false}
use mathlib.Core.Path.{◌≡◌, sym, ap, ◌∙◌}
use mathlib.Core.List.{List, [], ◌∷◌}
use Prim.Native.Nat.{ℕ, ◌+◌, ◌-◌, ◌≤◌, ◌<◌}
use native.Mathlib.Numerals.{add-one}
use native.Mathlib.Omega.{arith}
use lib.IntN.{ℤ, pos}
use lib.ListN.{length, get_or, take, drop}
use lib.Seq.{take_all}
use mir.Syntax.{w64}
use mir.Val.{to_z, of_z}
use Rattle.std.specs.Prelude.{is_ok}
use Rattle.format.proofs.Plan.Checks.{length-stored}
use Rattle.format.specs.Distinct.{scratch_needed, collected}
use Rattle.format.specs.Keys.{Key}
use Rattle.distinct.specs.Collect.{has}
use Rattle.distinct.specs.Sorted.{values_of}
use Rattle.distinct.proofs.Machine.{read_back}
use Rattle.distinct.proofs.Collecting.{Gathering, gathering-first, gathering-merges, gathering-merged, gathering-done, gathering-stays}
use Rattle.distinct.proofs.Collecting.{gathering-known, gathering-held, gathering-taken, gathering-full, asked-rising, asked_has, has_found, taken-long, cleared-long}
use Rattle.distinct.proofs.fill.fill.Goals as goal
use Rattle.distinct.proofs.fill.fill.Goals.{After-find, Else-is_ok, In-Ok, In_default, then-is_full, else-is_full}

-- the keys after the first, as the loop reads them
abbrev later_keys : List ℤ → List ℤ
later_keys column = take (length column - 1) (drop 1 column)

abbrev machine : List ℤ → ℕ → ℤ
machine column k = to_z w64 (of_z w64 (get_or (later_keys column) k (pos 0)))

later : (column : List ℤ) (k : ℕ) → k < length (later_keys column) → (k + 1 < length column) × (get_or (later_keys column) k (pos 0) ≡ get_or column (k + 1) (pos 0))
later [] k h = absurd (omega arith)
later (v ∷ vs) k h =
    let all : take (length (v ∷ vs) - 1) vs ≡ vs = take_all (length (v ∷ vs) - 1) vs (omega arith) in
    (omega (arith, rw all at h), rw (all, add-one k))

ended : (column : List ℤ) (k : ℕ) → 0 < length column → length (later_keys column) ≤ k → length column ≤ k + 1
ended [] k some h = absurd (omega arith)
ended (v ∷ vs) k some h =
    let all : take (length (v ∷ vs) - 1) vs ≡ vs = take_all (length (v ∷ vs) - 1) vs (omega arith) in
    omega (arith, rw all at h)

key_is : (column : List ℤ) (k : ℕ) → k < length (later_keys column) → Key (get_or (later_keys column) k (pos 0)) → machine column k ≡ get_or column (k + 1) (pos 0)
key_is column k h fits = read_back fits ∙ (later column k h).1

-- the scratch is long enough
needed : (column : List ℤ) {scratch slots : List ℤ} → slots ≡ scratch → scratch_needed column ≤ length scratch → scratch_needed column ≤ length slots
needed column e h = rw e h

pub loop-key-init : goal.loop-key-init
loop-key-init c =
    let pre = c.requires.column_in_bounds in
    let w = c.of-waiting.ensures in
    (gathering-first _ _ pre.1 c.new-held.ensures.count c.args.pending.now w.buffer w.count (read_back (search rules)) c.requires.begun c.requires.by_index, omega (arith, w.count, pre.2, ap length w.buffer ∙ length-stored (_ ∷ []) c.args.pending.now (omega (arith, pre.2))))

-- a buffer that is not full
not-full : {n limit : ℕ} → (n ≡ limit → false ≡ true) → n ≤ limit → n < limit
not-full {n} {limit} f h =
    let other : n ≡ limit → ⊥ = λ (e : n ≡ limit). (let g = f e in let z : ◌≡◌ {A = ℕ} 0 1 = cc in omega arith) in
    omega (arith, other)

-- ---- a key that was met

pub loop-key-preserved-then-note : goal.loop-key-preserved-then-note
loop-key-preserved-then-note c =
    let n = needed c.args.column.now c.new-held.ensures.buffer c.requires.column_in_bounds.0 in
    let inv = c.loop-key.invariant in
    (gathering-known _ _ n inv.0 (later _ _ c.loop-key-test.true).0 (key_is _ _ c.loop-key-test.true (search rules)) c.note.ensures.noted c.note.ensures.value c.if-note.true, inv.1)

pub find-requires : goal.find-requires
find-requires c = asked-rising _ _ c.loop-key.invariant.0 _ c.to_ask-asked.ensures c.values.ensures

-- what is found in the values that are asked
found : (c : After-find) → has (values_of c.loop-key.held) (machine c.args.column.now c.loop-key.key-index) ≡ is_ok c.find.result
found c =
    sym (asked_has _ _ c.loop-key.invariant.0 _ c.to_ask-asked.ensures c.values.ensures)
    ∙ has_found c.find.result _ c.find.ensures.found c.find.ensures.absent

pub loop-key-preserved-then-is_ok : goal.loop-key-preserved-then-is_ok
loop-key-preserved-then-is_ok c =
    let n = needed c.args.column.now c.new-held.ensures.buffer c.requires.column_in_bounds.0 in
    let inv = c.loop-key.invariant in
    let had = found (goal.at.loop-key-preserved-then-is_ok c).After-find ∙ sym c.is_ok.ensures.value ∙ c.if-is_ok.true in
    (gathering-held _ _ n inv.0 (later _ _ c.loop-key-test.true).0 (key_is _ _ c.loop-key-test.true (search rules)) c.note.ensures.noted had, inv.1)

-- ---- one that was not

absent : (c : Else-is_ok) → has (values_of c.loop-key.held) (machine c.args.column.now c.loop-key.key-index) ≡ false
absent c = found (goal.at.Else-is_ok c).After-find ∙ sym c.is_ok.ensures.value ∙ c.if-is_ok.false

gathers : (c : In-Ok) → Gathering c.args.column.now c.new-held.result c.loop-key.held c.take_in.new.self c.note.new.self (c.loop-key.key-index + 1 + 1)
gathers c =
    let n = needed c.args.column.now c.new-held.ensures.buffer c.requires.column_in_bounds.0 in
    gathering-taken _ _ n c.loop-key.invariant.0 (later _ _ c.loop-key-test.true).0 (key_is _ _ c.loop-key-test.true (search rules)) c.note.ensures.noted (absent (goal.at.In-Ok c).Else-is_ok)
    (rw c.len.ensures at c.in-Ok.ensures.ok)

pub merge-requires-then-is_full : goal.merge-requires-then-is_full
merge-requires-then-is_full c =
    let n = needed c.args.column.now c.new-held.ensures.buffer c.requires.column_in_bounds.0 in
    let m = gathering-merges _ _ n (gathers (goal.at.merge-requires-then-is_full c).In-Ok) in
    record { room = m.0; apart = m.1 }

pub loop-key-preserved : goal.loop-key-preserved
loop-key-preserved c =
    let n = needed c.args.column.now c.new-held.ensures.buffer c.requires.column_in_bounds.0 in
    let g = gathers (goal.at.loop-key-preserved c).In-Ok in
    let long = taken-long c.loop-key.invariant.1 _ (rw c.len.ensures at c.in-Ok.ensures.ok).1 in
    let some = c.loop-key.invariant.1 in
    elim c.if-is_full.branch [
      | then-is_full w ↦ rw (w.held-is, w.waiting-is) (gathering-merged _ _ n g w.merge-then-is_full.ensures w.clear.ensures.count, omega (arith, long, some, w.clear.ensures.count, cleared-long w.clear.ensures))
      | else-is_full w ↦ rw (w.held-is, w.waiting-is) (g, not-full w.if-is_full.ensures.1 c.take_in.new.self.inside)
    ]

-- ---- one too many

stays : (c : In_default) → Gathering c.args.column.now c.new-held.result c.loop-key.held c.take_in.new.self c.loop-key.seen (c.loop-key.key-index + 1)
stays c = gathering-stays _ _ (needed c.args.column.now c.new-held.ensures.buffer c.requires.column_in_bounds.0) c.loop-key.invariant.0 c.in_default.ensures.full.1

pub merge-requires : goal.merge-requires
merge-requires c =
    let m = gathering-merges _ _ (needed c.args.column.now c.new-held.ensures.buffer c.requires.column_in_bounds.0) (stays (goal.at.merge-requires c).In_default) in
    record { room = m.0; apart = m.1 }

pub returns-in_default : goal.returns-in_default
returns-in_default c =
    let n = needed c.args.column.now c.new-held.ensures.buffer c.requires.column_in_bounds.0 in
    let d = (goal.at.returns-in_default c).In_default in
    let e = c.in_default.ensures.full in
    let p =
    gathering-full _ _ n c.loop-key.invariant.0 (later _ _ c.loop-key-test.true).0 (key_is _ _ c.loop-key-test.true (search rules)) c.note.ensures.noted (absent (goal.at.returns-in_default c).Else-is_ok)
    (rw c.len.ensures at e).0 e.1 c.merge.ensures in
    let same = sym (c.merge.ensures.same_buffer ∙ c.loop-key.invariant.0.front.same_buffer ∙ c.new-held.ensures.same_buffer) in
    let is = p.1 ∙ ap (collected c.args.column.now) c.new-held.ensures.buffer in
    record { value = rw c.at.ensures p.0; scratch_after = rw (← is) (search rules) }

-- ---- all keys

pub merge-requires-2 : goal.merge-requires-2
merge-requires-2 c =
    let m = gathering-merges _ _ (needed c.args.column.now c.new-held.ensures.buffer c.requires.column_in_bounds.0) c.loop-key.invariant.0 in
    record { room = m.0; apart = m.1 }

pub returns : goal.returns
returns c =
    let n = needed c.args.column.now c.new-held.ensures.buffer c.requires.column_in_bounds.0 in
    let p = gathering-done _ _ n c.loop-key.invariant.0 c.merge-2.ensures (ended _ _ c.requires.column_in_bounds.1 c.loop-key-test.false) in
    let same = sym (c.merge-2.ensures.same_buffer ∙ c.loop-key.invariant.0.front.same_buffer ∙ c.new-held.ensures.same_buffer) in
    let is = p.1 ∙ ap (collected c.args.column.now) c.new-held.ensures.buffer in
    record { value = rw c.len-2.ensures p.0; scratch_after = rw (← is) (search rules) }
