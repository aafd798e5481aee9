-- `filling::fill_blocks` meets its contract: what is left of the blocks, summed behind what is stored, is the whole. Their varints were read before.
use mathlib.Core.Path.{◌≡◌, sym, ap, ◌∙◌}
use Prim.Native.Nat.{◌+◌, ◌-◌}
use native.Mathlib.Omega.{arith}
use lib.ListN.{length}
use Rattle.format.specs.Outcome.{ok}
use Rattle.format.specs.Answers.{outcome_of}
use Rattle.format.specs.Standalone.{read_varint}
use Rattle.format.proofs.Codecs.Counts.{length-packed_values}
use Rattle.number.proofs.Signed.{held}
use Rattle.delta.proofs.Held.{key-read}
use Rattle.delta.proofs.There.{is_read}
use Rattle.delta.proofs.Blocks.{Blocks, block-there, blocks_more, blocks-read, blocks-done}
use Rattle.delta.proofs.filling.fill_blocks.Goals.{After-unwrap-least, After-end-at}
use Rattle.delta.proofs.filling.fill_blocks.Goals as goal

pub unwrap-least-requires : goal.unwrap-least-requires
unwrap-least-requires c =
    let a = c.args in
    let l = c.loop-done in
    is_read _ c.read_varint.ensures (blocks-read a.chunk.now a.size a.from a.deltas l.at l.done (a.deltas - l.done) c.requires.0 l.invariant (omega arith))

-- the least delta
least : (c : After-unwrap-least) → read_varint c.args.chunk.now c.loop-done.at ≡ ok c.unwrap-least.result
least c = sym c.read_varint.ensures ∙ ap outcome_of c.unwrap-least.ensures

pub new-offsets-requires : goal.new-offsets-requires
new-offsets-requires c =
    let a = c.args in
    let l = c.loop-done in
    let h = block-there a.chunk.now a.size a.from a.deltas l.at l.done (a.deltas - l.done) c.requires.0 l.invariant (omega arith) (least (goal.at.new-offsets-requires c).After-unwrap-least) c.min-n.ensures in
    record { few = omega (arith, c.min-n.ensures, l.invariant.count, c.requires.1); there = omega (arith, h.1); width = h.0; bytes = h.1 }

pub fill_block-requires : goal.fill_block-requires
fill_block-requires c =
    let l = c.loop-done in
    let many = ap length c.new-offsets.ensures.values ∙ length-packed_values _ _ _ _ in
    omega (arith, many, c.min-n.ensures, l.invariant.count, l.invariant.sums.long)

-- a block more
more : (c : After-end-at)
    → let a = c.args in
    let n = c.min-n.result in
    let done = c.loop-done.done in
    Blocks a.chunk.now a.size a.from a.deltas a.column.now c.fill_block.new.column c.end-at.result (done + n) (a.deltas - done - n)
more c =
    let a = c.args in
    let l = c.loop-done in
    let told = least (goal.at.After-end-at c).After-unwrap-least in
    blocks_more a.chunk.now a.size a.from a.deltas l.at l.done (a.deltas - l.done) c.requires.0 l.invariant (omega arith) told c.min-n.result c.min-n.ensures c.requires.2
    (c.end-at.ensures ∙ c.new-offsets.ensures.end) (rw (held c.unwrap-least.result.value (key-read _ _ told), c.new-offsets.ensures.values) at c.fill_block.ensures)

pub loop-done-preserved : goal.loop-done-preserved
loop-done-preserved c =
    let a = c.args in
    let done = c.loop-done.done in
    let n : c.min-n.result ≡ a.size = omega (arith, c.min-n.ensures) in
    let left : a.deltas - done - a.size ≡ a.deltas - (done + a.size) = omega arith in
    rw (n, left) at (more (goal.at.loop-done-preserved c).After-end-at)

pub returns : goal.returns
returns c =
    let a = c.args in
    let l = c.loop-done in
    blocks-done a.chunk.now a.size a.from a.deltas l.at l.done (a.deltas - l.done) c.requires.0 l.invariant (omega arith)

pub returns-2 : goal.returns-2
returns-2 c =
    let a = c.args in
    let l = c.loop-done in
    blocks-done a.chunk.now a.size a.from a.deltas c.end-at.result (l.done + c.min-n.result) (a.deltas - l.done - c.min-n.result) c.requires.0 (more (goal.at.returns-2 c).After-end-at)
    (omega (arith, c.min-n.ensures))
