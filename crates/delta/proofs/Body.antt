-- A body that was asked for and found: its first value and its block size are read again, its blocks are there, and the first value with the sums behind it are
-- the values of the definition.
use mathlib.Core.Path.{◌≡◌, sym, ap, ◌∙◌}
use mathlib.Core.List.{List, ◌∷◌}
use Prim.Native.Nat.{ℕ, suc, ◌-◌, ◌^◌, ◌≤◌, ◌<◌}
use native.Mathlib.Omega.{arith}
use lib.Dec.{leb}
use lib.IntN.{ℤ, pos}
use lib.ListN.{length, set}
use lib.Seq.{sets, get_or-set_same}
use borrow.Author.Tests.{leb-true}
use Rattle.std.proofs.lemmas.Bool.{and_parts}
use Rattle.format.specs.Outcome.{refused, ok, check}
use Rattle.format.specs.Answers.{stored}
use Rattle.format.specs.Encodings.{within}
use Rattle.format.specs.Standalone.{read_varint, Varint}
use Rattle.format.specs.Delta.{block_count, validate_delta, block_deltas, prefix_sums, delta_values}
use Rattle.format.specs.Varint.{read_uvarint, Uvarint}
use Rattle.format.proofs.Numbers.Keys.{unzigzag-zigzag}
use Rattle.format.proofs.Numbers.Stores.{sets-stored}
use Rattle.format.proofs.Codecs.Outcome.{both-passed, check-passed}
use Rattle.format.proofs.Codecs.Counts.{uvarint-again, delta-count}
use Rattle.varint.proofs.Answers.{signed-read, signed-refused}
use Rattle.delta.specs.Summed.{summed}
use Rattle.delta.specs.There.{BlocksThere, BodyThere}

module _ (s : List ℕ) (start count : ℕ) (some : 0 < count) (b : BodyThere s start count) where
  one_more : count ≡ suc (count - 1)
  one_more = omega arith

  passed : validate_delta s start (suc (count - 1)) b.padded ≡ ok b.extent
  passed = ap (λ (n : ℕ). validate_delta s start n b.padded) (sym one_more) ∙ b.passed

  -- the first value was read,
  pub first-there : (number offset : ℕ) → read_varint s start ≡ refused number offset → ⊥
  unfolding validate_delta
  first-there number offset r =
      let h = rw (signed-refused s start r) at passed in
      let z : ◌≡◌ {A = ℕ} 0 1 = cc in
      omega arith

  module _ {first : Varint} (f : read_varint s start ≡ ok first) where
    -- and the block size,
    pub size-there : (number offset : ℕ) → read_uvarint s first.next ≡ refused number offset → ⊥
    unfolding validate_delta
    size-there number offset r =
        let h = rw (signed-read s start f, r) at passed in
        let z : ◌≡◌ {A = ℕ} 0 1 = cc in
        omega arith

    module _ {size : Uvarint} (r : read_uvarint s first.next ≡ ok size) where
      -- which is 1 at least; and the blocks are there
      pub blocks-there : (1 ≤ size.value) × BlocksThere s size.value size.next (count - 1)
      unfolding validate_delta
      blocks-there =
          both-passed (check (within 1 (2 ^ 20) size.value) 19 size.next) _ (rw (signed-read s start f, r) at passed) λ _ one h.
          (leb-true 1 size.value (and_parts (leb 1 size.value) _ (check-passed _ 19 _ one)).0, record { padded = _; extent = b.extent; passed = h })

      -- the values
      values-are : delta_values s start count ≡ first.value ∷ prefix_sums first.value (block_deltas s size.value size.next (block_count size.value (count - 1)) (count - 1))
      unfolding delta_values
      values-are =
          ap (delta_values s start) one_more
          ∙ rw (uvarint-again s start (signed-read s start f), uvarint-again s first.next r, unzigzag-zigzag first.value)

      -- THE COLUMN, when the first value is stored and the others behind it
      pub values-stored : (l : List ℤ) {column : List ℤ} → count ≤ length l
          → column ≡ summed (set l 0 first.value) 0 (block_deltas s size.value size.next (block_count size.value (count - 1)) (count - 1)) → column ≡ stored (delta_values s start count) l
      unfolding summed
      values-stored l h e =
          let ds : List ℤ = block_deltas s size.value size.next (block_count size.value (count - 1)) (count - 1) in
          e
          ∙ ap (λ (v : ℤ). sets (set l 0 first.value) 1 (prefix_sums v ds)) (get_or-set_same l 0 first.value (pos 0) (omega arith))
          ∙ ap (sets l 0) (sym values-are)
          ∙ sets-stored (delta_values s start count) l (omega (arith, delta-count s start count b.padded b.passed))

-- no values
pub none-stored : (s : List ℕ) (start count : ℕ) (l : List ℤ) → count ≡ 0 → l ≡ stored (delta_values s start count) l
unfolding delta_values stored
none-stored s start count l e = rw e
