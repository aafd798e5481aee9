-- `Window::store` meets its contract: the least delta's varint, the width byte and the packed offsets are stored one behind the other.
use mathlib.Core.Path.{◌≡◌, refl, sym, ap₂, ◌∙◌}
use mathlib.Core.List.{[]}
use Prim.Native.Nat.{◌-◌}
use native.Mathlib.Omega.{arith}
use lib.IntN.{ℤ}
use lib.ListN.{length, take}
use lib.Seq.{length-take-le}
use Rattle.format.specs.Width.{width}
use Rattle.format.specs.Keys.{gap}
use Rattle.format.specs.Folds.{least, greatest, deltas}
use Rattle.format.specs.Delta.{block_bytes}
use Rattle.format.proofs.Numbers.Stores.{Storing, storing-done, storing-end}
use Rattle.format.proofs.Numbers.Widths.{width-le}
use Rattle.places.proofs.Packing.{front-stored}
use Rattle.delta.proofs.Held.{low_held}
use Rattle.delta.proofs.Placed.{block_offsets, block_width, length-offsets, low_some, width_inside, offsets_some, block_stored}
use Rattle.delta.proofs.writing.Window.store.Goals as goal
use Rattle.delta.proofs.writing.Window.store.Goals.{After-offsets, After-put_packed, After-width-width, After-unwrap}

-- the width
span : (c : After-width-width) → c.width-width.result.bits ≡ block_width c.args.self.values.now
span c = c.width-width.ensures ∙ ap₂ (λ (a b : ℤ). width (gap a b)) c.bounds-bounds.ensures.0 c.bounds-bounds.ensures.1

-- the offsets
offsets_are : (c : After-offsets)
    → let window = c.args.self.values.now in
    take (length window - 1) c.offsets.new.block ≡ block_offsets window
offsets_are c =
    let window = c.args.self.values.now in
    front-stored (block_offsets window) _ (length window - 1) (rw (low_held window c.bounds-bounds.ensures.0) at c.offsets.ensures) (length-offsets window) (omega arith)

pub unwrap-next-requires : goal.unwrap-next-requires
unwrap-next-requires c =
    let p = c.put_varint.ensures in
    low_some c.args.self.values.now _ _ c.requires c.bounds-bounds.ensures.0 (p.value, p.out_after)

pub overflow_cast-out : goal.overflow_cast-out
overflow_cast-out c =
    let ds = deltas c.args.self.values.now in
    omega (arith, span (goal.at.overflow_cast-out c).After-width-width, width-le (gap (least ds) (greatest ds)))

pub bounds-out-next : goal.bounds-out-next
bounds-out-next c =
    let p = c.put_varint.ensures in
    width_inside c.args.self.values.now _ _ c.requires c.bounds-bounds.ensures.0 (p.value, p.out_after) c.unwrap-next.ensures

pub slice_bounds-put_packed-end : goal.slice_bounds-put_packed-end
slice_bounds-put_packed-end c = sym (length-take-le _ _ (omega (arith, c.offsets.auto.block)))

pub overflow_add-next : goal.overflow_add-next
overflow_add-next c =
    let p = c.put_varint.ensures in
    omega (arith, width_inside c.args.self.values.now _ _ c.requires c.bounds-bounds.ensures.0 (p.value, p.out_after) c.unwrap-next.ensures)

pub unwrap-requires : goal.unwrap-requires
unwrap-requires c =
    let p = c.put_varint.ensures in
    let q = c.put_packed.ensures in
    offsets_some c.args.self.values.now _ _ c.requires c.bounds-bounds.ensures.0 (p.value, p.out_after) c.unwrap-next.ensures (span (goal.at.unwrap-requires c).After-width-width) _
    (offsets_are (goal.at.unwrap-requires c).After-offsets) c.args.self.short (q.value, q.out_after)

-- all is stored
ended : (c : After-unwrap)
    → let a = c.args in
    Storing (block_bytes (deltas a.self.values.now)) a.out.now a.at [] c.put_packed.new.out c.unwrap.result
ended c =
    let p = c.put_varint.ensures in
    let q = c.put_packed.ensures in
    block_stored c.args.self.values.now _ _ c.requires c.bounds-bounds.ensures.0 (p.value, p.out_after) c.unwrap-next.ensures (span (goal.at.After-unwrap c).After-width-width) _
    (offsets_are (goal.at.After-unwrap c).After-offsets) c.args.self.short (q.value, q.out_after) c.unwrap.ensures

pub shape_of-out : goal.shape_of-out
shape_of-out c = (ended (goal.at.shape_of-out c).After-unwrap).long

pub returns : goal.returns
returns c =
    let e = ended (goal.at.returns c).After-unwrap in
    record { value = storing-end e refl; out_after = storing-done e refl }
