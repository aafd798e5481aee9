-- The next block of a packed body is unpacked, and the values after it are left (`Taking`).
use mathlib.Core.Path.{◌≡◌, refl, ap, ◌∙◌}
use Prim.Native.Nat.{ℕ, ◌+◌, ◌-◌}
use native.Mathlib.Omega.{arith}
use borrow.Author.Rules.{rules}
use Rattle.format.specs.Packing.{packed_len}
use Rattle.format.proofs.Numbers.All.{Below, all-by}
use Rattle.format.proofs.Codecs.Counts.{length-packed_values}
use Rattle.places.specs.Blocks.{to_come, body_end}
use Rattle.places.proofs.Taking.{none_left, end-kept, rest-there, block-taken, block-after, block-unpacked}
use Rattle.places.proofs.block.Blocks.next.Goals.{After-packed_len}
use Rattle.places.proofs.block.Blocks.next.Goals as goal

-- the block's bytes, however its count is written
block_len : (c : After-packed_len) → c.packed_len.result ≡ packed_len c.min-n.result c.args.self.now.width.bits
block_len c = c.packed_len.ensures ∙ ap (λ (k : ℕ). packed_len k c.args.self.now.width.bits) (omega arith)

pub returns-then-self-eq0 : goal.returns-then-self-eq0
unfolding to_come
returns-then-self-eq0 c = record { taken = none_left _ _ _ c.if-self-eq0.true; after = (refl, refl) }

pub unwrap-requires : goal.unwrap-requires
unwrap-requires c =
    let s = c.args.self.now in
    block-unpacked s.chunk.now s.at s.width.bits s.left c.min-n.ensures refl s.few s.width.narrow s.there _ (search rules) c.unpack.result c.unpack.ensures.0

pub overflow_add-self : goal.overflow_add-self
overflow_add-self c =
    let s = c.args.self.now in
    let there = rest-there s.chunk.now s.at s.width.bits s.left c.min-n.ensures (block_len (goal.at.overflow_add-self c).After-packed_len) s.few s.width.narrow s.there in
    search rules

pub invariant_of-self : goal.invariant_of-self
invariant_of-self c =
    let s = c.args.self.now in
    record {
      bytes = s.bytes;
      few = omega (arith, s.few);
      there = rest-there s.chunk.now s.at s.width.bits s.left c.min-n.ensures (block_len (goal.at.invariant_of-self c).After-packed_len) s.few s.width.narrow s.there;
    }

pub returns-clause-taken : goal.returns-clause-taken
unfolding to_come
returns-clause-taken c =
    let s = c.args.self.now in
    let bytes : Below 256 s.chunk.now = all-by s.chunk.now 0 λ i _. s.bytes i in (
      omega (arith, c.min-n.ensures, c.if-self-eq0.false),
      omega (arith, c.min-n.ensures, length-packed_values s.chunk.now s.at s.width.bits s.left),
      omega (arith, length-packed_values s.chunk.now s.at s.width.bits s.left, length-packed_values s.chunk.now (s.at + c.packed_len.result) s.width.bits (s.left - c.min-n.result), c.min-n.ensures),
      block-taken s.chunk.now s.at s.width.bits s.left c.min-n.ensures (block_len (goal.at.returns-clause-taken c).After-packed_len) s.few s.width.narrow s.there bytes _ (search rules) c.unpack.ensures.1,
    )

pub returns-clause-after : goal.returns-clause-after
unfolding to_come body_end
returns-clause-after c =
    let s = c.args.self.now in
    let bytes : Below 256 s.chunk.now = all-by s.chunk.now 0 λ i _. s.bytes i in (
      end-kept s.chunk.now s.at s.width.bits s.left c.min-n.ensures (block_len (goal.at.returns-clause-after c).After-packed_len) s.few s.width.narrow s.there,
      block-after s.chunk.now s.at s.width.bits s.left c.min-n.ensures (block_len (goal.at.returns-clause-after c).After-packed_len) s.few s.width.narrow s.there bytes c.args.block.now (search rules) c.unpack.ensures.1,
    )
