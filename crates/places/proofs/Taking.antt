-- The next block of a packed body: its bytes are there, and its values and those of the rest are all that were left.
use mathlib.Core.Path.{◌≡◌, sym, ap, ap₂, ◌∙◌}
use mathlib.Core.List.{List, [], ◌++◌}
use Prim.Native.Nat.{ℕ, ◌+◌, ◌-◌, ◌≤◌, min}
use native.Mathlib.Omega.{arith}
use lib.ListN.{length, take, drop, length-drop}
use lib.Seq.{take_at}
use borrow.Author.Rules.{rules}
use borrow.Author.Tests.{le-leb}
use Rattle.std.specs.Prelude.{Result, Ok, Err}
use Rattle.std.specs.Result.{IsOk}
use Rattle.format.specs.Outcome.{ok}
use Rattle.format.specs.Answers.{outcome_of, stored}
use Rattle.format.specs.declared.refusals.Refusal.{Refusal}
use Rattle.format.specs.Digits.{digits}
use Rattle.format.specs.Encodings.{max_chunk_elements}
use Rattle.format.specs.Packing.{packed_len, packed_end, unpacked, packed_values}
use Rattle.format.specs.Standalone.{unpack_answer, unpack_buffer, unpack_outcome}
use Rattle.format.proofs.Numbers.All.{Below}
use Rattle.format.proofs.Numbers.Packing.{packed_len-split}
use Rattle.format.proofs.Codecs.Counts.{length-packed_values}
use Rattle.bitpack.proofs.Blocks.{values-block, unpack-block, unpack-front}
use Rattle.bitpack.proofs.Parts.{part-rest}

-- where nothing is left
pub none_left : (s : List ℕ) (at w : ℕ) {left : ℕ} → left ≡ 0 → packed_values s at w left ≡ []
unfolding packed_values unpacked digits
none_left s at w e = rw e

module _ (s : List ℕ) (at w left : ℕ) {n bytes : ℕ} (e : n ≡ min left 128) (bytes_of : bytes ≡ packed_len n w)
    (few : left ≤ max_chunk_elements) (narrow : w ≤ 64) (there : at + packed_len left w ≤ length s)
  where
    parted : packed_len n w + packed_len (left - n) w ≡ packed_len left w
    parted =
        let a : n ≡ min 128 left = omega arith in
        let b : left - n ≡ left - 128 = omega arith in
        ap₂ (λ (i j : ℕ). packed_len i w + packed_len j w) a b ∙ packed_len-split left w

    -- the body ends where it ended
    pub end-kept : at + bytes + packed_len (left - n) w ≡ at + packed_len left w
    end-kept = omega (arith, bytes_of, parted)

    pub rest-there : at + bytes + packed_len (left - n) w ≤ length s
    rest-there = omega (arith, end-kept, there)

    block-there : packed_len n w ≤ length (drop at s)
    block-there = omega (arith, parted, there, length-drop at s)

    -- the block's values and those of the rest
    both : Below 256 s → packed_values s at w left ≡ packed_values s at w n ++ packed_values s (at + bytes) w (left - n)
    both h = rw (← e, ← bytes_of) at (values-block w s at left h)

    -- as it is unpacked to a block
    pub block-taken : Below 256 s → (block : List ℕ) → length block ≡ 128 → {back : List ℕ} → back ≡ unpack_buffer (take (length s - at) (drop at s)) w n block
        → packed_values s at w left ≡ take n back ++ packed_values s (at + bytes) w (left - n)
    unfolding packed_values
    block-taken h block hb {back} eb =
        let front : take n back ≡ packed_values s at w n
        = ap (take n) (eb ∙ ap (λ (r : List ℕ). unpack_buffer r w n block) (part-rest at s)) ∙ unpack-front w n (drop at s) block narrow (omega arith) block-there (omega arith) in
        both h ∙ ap (λ (l : List ℕ). l ++ packed_values s (at + bytes) w (left - n)) (sym front)

    -- and behind them the block holds what it held
    pub block-after : Below 256 s → (block : List ℕ) → length block ≡ 128 → {back : List ℕ} → back ≡ unpack_buffer (take (length s - at) (drop at s)) w n block
        → back ≡ stored (take n (packed_values s at w left)) block
    unfolding packed_values
    block-after h block hb {back} eb =
        let front : take n (packed_values s at w left) ≡ packed_values s at w n
        = ap (take n) (both h) ∙ take_at (packed_values s at w n) (packed_values s (at + bytes) w (left - n)) n (length-packed_values s at w n) in
        eb
        ∙ ap (λ (r : List ℕ). unpack_buffer r w n block) (part-rest at s)
        ∙ unpack-block w n (drop at s) block narrow (omega arith) block-there (omega arith)
        ∙ ap (λ (l : List ℕ). stored l block) (sym front)

    -- which is not refused
    pub block-unpacked : (block : List ℕ) → length block ≡ 128 → (r : Result ℕ Refusal) → outcome_of r ≡ unpack_answer (take (length s - at) (drop at s)) w n (length block) → IsOk r
    unfolding unpack_answer unpack_outcome packed_end
    block-unpacked block hb r told =
        let part = take (length s - at) (drop at s) in
        let room : packed_len n w ≤ length part - 0 = omega (arith, parted, there, ap length (part-rest at s), length-drop at s) in
        go r
        (simp (le-leb n max_chunk_elements (omega (arith, e, few)), le-leb w 64 narrow, le-leb (packed_len n w) (length part - 0) room, le-leb n (length block) (omega (arith, e, hb))) at told)
      where
        go : (r : Result ℕ Refusal) {m : ℕ} → outcome_of r ≡ ok m → IsOk r
        go (Ok v) t = search rules
        go (Err refusal) t = let z : ◌≡◌ {A = ℕ} 0 1 = cc in absurd (omega arith)
