-- `Window::block_len` meets its contract: the bounds give the width, and the length is that of the varint, the width byte and the packed offsets.
use mathlib.Core.Path.{◌≡◌, sym, ap, ap₂, ◌∙◌}
use Prim.Native.Nat.{ℕ, ◌+◌}
use native.Mathlib.Omega.{arith}
use lib.IntN.{ℤ}
use lib.ListN.{length}
use Rattle.format.specs.Keys.{gap}
use Rattle.format.specs.Varint.{varint_len}
use Rattle.format.specs.Width.{width}
use Rattle.format.specs.Packing.{packed_len}
use Rattle.format.specs.Folds.{least, greatest, deltas}
use Rattle.format.specs.Delta.{block_bytes}
use Rattle.format.proofs.Numbers.Keys.{varint_len-le}
use Rattle.delta.proofs.Held.{low_held}
use Rattle.delta.proofs.Measured.{block-length, block-limit}
use Rattle.delta.proofs.Windows.{length-deltas}
use Rattle.delta.proofs.writing.Window.block_len.Goals as goal
use Rattle.delta.proofs.writing.Window.block_len.Goals.{After-packed_len, After-width, After-varint_len}

first-len : (c : After-varint_len) → c.varint_len.result ≡ varint_len (least (deltas c.args.self.values.now))
first-len c =
    c.varint_len.ensures ∙ ap varint_len (low_held c.args.self.values.now c.bounds-bounds.ensures.0)

span : (c : After-width)
    → let ds = deltas c.args.self.values.now in
    c.width.result.bits ≡ width (gap (least ds) (greatest ds))
span c =
    c.width.ensures ∙ ap₂ (λ (a b : ℤ). width (gap a b)) c.bounds-bounds.ensures.0 c.bounds-bounds.ensures.1

pub overflow_add-result : goal.overflow_add-result
overflow_add-result c = omega (arith, first-len (goal.at.overflow_add-result c).After-varint_len, varint_len-le (least (deltas c.args.self.values.now)))

-- all of it
long : (c : After-packed_len) → c.varint_len.result + 1 + c.packed_len.result ≡ length (block_bytes (deltas c.args.self.values.now))
long c =
    let window = c.args.self.values.now in
    let rest = c.packed_len.ensures ∙ ap₂ packed_len (sym (length-deltas window)) (span (goal.at.After-packed_len c).After-width) in
    ap₂ (λ (a b : ℕ). a + 1 + b) (first-len (goal.at.After-packed_len c).After-varint_len) rest ∙ sym (block-length window)

pub returns : goal.returns
returns c = long (goal.at.returns c).After-packed_len

pub overflow_add-result-2 : goal.overflow_add-result-2
overflow_add-result-2 c =
    let window = c.args.self.values.now in
    omega (arith, long (goal.at.overflow_add-result-2 c).After-packed_len, block-limit window, length-deltas window)
