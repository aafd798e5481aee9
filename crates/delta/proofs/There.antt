-- How many blocks there are, one by one; and blocks that were asked for and found: the least delta's varint is read again, the width is at most 64, the packed bytes
-- are there, and so are the blocks after them. Each of these is an answer among those that `validate_blocks` was given.
use mathlib.Core.Path.{◌≡◌, sym}
use mathlib.Core.List.{List}
use Prim.Native.Nat.{ℕ, suc, ◌+◌, ◌-◌, ◌/◌, ◌≤◌, ◌<◌, min}
use native.Mathlib.Nat.{add-div_right, div-eq_of_lt}
use native.Mathlib.Decide.{dec_le}
use native.Mathlib.Omega.{arith}
use lib.Dec.{leb, ltb}
use lib.ListN.{length, get_or}
use borrow.Author.Rules.{rules}
use borrow.Author.Tests.{leb-true, ltb-true}
use Rattle.std.specs.Prelude.{Result, Ok, Err}
use Rattle.std.specs.Result.{IsOk}
use Rattle.format.specs.Outcome.{Outcome, refused, ok, check}
use Rattle.format.specs.Answers.{outcome_of}
use Rattle.format.specs.declared.refusals.Refusal.{Refusal}
use Rattle.format.specs.Varint.{read_uvarint, first_padded, Uvarint}
use Rattle.format.specs.Packing.{packed_len, width_at, packed_end}
use Rattle.format.specs.Delta.{block_count, validate_blocks}
use Rattle.format.proofs.Codecs.Outcome.{both-passed, check-passed}
use Rattle.delta.specs.There.{BlocksThere}

-- ---- what was read before is read again

pub is_read : {A : Type 0} (r : Result A Refusal) {o : Outcome A} → outcome_of r ≡ o → ((number offset : ℕ) → o ≡ refused number offset → ⊥) → IsOk r
is_read (Ok v) e there = search rules
is_read (Err refusal) e there = absurd (there _ _ (sym e))

-- ---- how many blocks there are

module _ (size left : ℕ) (some : 1 ≤ size) where
  -- where there are deltas, there is a block of them, and those of the rest
  pub block_count-more : 1 ≤ left → block_count size left ≡ suc (block_count size (left - min left size))
  unfolding block_count
  block_count-more h = go (dec_le size left)
    where
      go : Dec (size ≤ left) → (left + (size - 1)) / size ≡ suc ((left - min left size + (size - 1)) / size)
      go (yes k) =
          let e : left + (size - 1) ≡ left - min left size + (size - 1) + size = omega arith in
          rw e (omega (arith, add-div_right (left - min left size + (size - 1)) {k = size} some))
      go (no k) =
          let e : left + (size - 1) ≡ left - 1 + size = omega arith in
          let f : left - min left size + (size - 1) ≡ size - 1 = omega arith in
          let z : (left - 1) / size ≡ 0 = div-eq_of_lt (omega arith) in
          let y : (size - 1) / size ≡ 0 = div-eq_of_lt (omega arith) in
          rw (e, f) (omega (arith, add-div_right (left - 1) {k = size} some))

  -- where there are none, no block
  pub block_count-none : left ≡ 0 → block_count size left ≡ 0
  unfolding block_count
  block_count-none e = let f : left + (size - 1) ≡ size - 1 = omega arith in rw f (div-eq_of_lt (omega arith))

-- ---- the next of the blocks

width-passed : (s : List ℕ) (at w : ℕ) → width_at s at ≡ ok w → (at < length s) × (w ≡ get_or s at 0)
unfolding width_at
width-passed s at w h =
    both-passed (check (ltb at (length s)) 10 at) _ h λ _ c g. (ltb-true at (length s) (check-passed (ltb at (length s)) 10 at c), (cc))

packed-passed : (s : List ℕ) (at w n end : ℕ) → packed_end s at w n ≡ ok end → (w ≤ 64) × (packed_len n w ≤ length s - at) × (end ≡ at + packed_len n w)
unfolding packed_end
packed-passed s at w n end h =
    both-passed (check (leb w 64) 12 0) _ h λ _ c g.
    both-passed (check (leb (packed_len n w) (length s - at)) 13 (length s - at)) _ g λ _ d i.
    (leb-true w 64 (check-passed (leb w 64) 12 0 c), leb-true (packed_len n w) (length s - at) (check-passed _ 13 _ d), (cc))

-- the packed body of n deltas after a least delta, with its width byte at `start`, and the blocks after it
pub record NextThere (s : List ℕ) (size left n start : ℕ) : Type 0 where
  pub narrow : get_or s start 0 ≤ 64
  pub packed : start + 1 + packed_len n (get_or s start 0) ≤ length s
  pub rest : BlocksThere s size (start + 1 + packed_len n (get_or s start 0)) (left - n)

module _ (s : List ℕ) (size at left : ℕ) (some : 1 ≤ size) (more : 1 ≤ left) (b : BlocksThere s size at left) where
  pub next-there : {low : Uvarint} → read_uvarint s at ≡ ok low → NextThere s size left (min left size) low.next
  unfolding validate_blocks
  next-there {low} r =
      let n : ℕ = min left size in
      both-passed (width_at s low.next) _ (rw (block_count-more size left some more, r) at b.passed) λ w u h₁.
      both-passed (packed_end s (low.next + 1) w n) _ h₁ λ end p h₂.
      let a = width-passed s low.next w u in
      let q = packed-passed s (low.next + 1) w n end p in
      record {
        narrow = rw (← a.1) q.0;
        packed = rw (← a.1) (omega (arith, a.0, q.1));
        rest = record { padded = first_padded b.padded at low.unpadded; extent = b.extent; passed = rw (← a.1, ← q.2) h₂ };
      }

  -- the least delta was read
  pub read-there : {number offset : ℕ} → read_uvarint s at ≡ refused number offset → ⊥
  unfolding validate_blocks
  read-there r =
      let h = rw (block_count-more size left some more, r) at b.passed in
      let z : ◌≡◌ {A = ℕ} 0 1 = cc in
      omega arith
