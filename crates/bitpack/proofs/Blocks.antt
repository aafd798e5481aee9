-- Packed bodies in blocks of 128 values. 128 values fill whole bytes at any width, so a body is its first block and then the body of the rest, when it is packed and
-- when it is read; the last block may be shorter, and nothing follows it.
use mathlib.Core.Path.{◌≡◌, sym, ap, ◌∙◌}
use Prim.Native.Nat.{ℕ, ◌+◌, ◌-◌, ◌*◌, ◌≤◌, min}
use native.Mathlib.Decide.{dec_le}
use native.Mathlib.Omega.{arith}
use mathlib.Core.List.{List, [], ◌++◌, append-nil}
use lib.ListN.{length, take, drop, length-take, take-append-drop, drop_of_length-le}
use lib.Seq.{take_all, drop-drop, take_at}
use borrow.Author.Tests.{le-leb}
use Rattle.format.specs.Digits.{digits}
use Rattle.format.specs.Encodings.{max_chunk_elements}
use Rattle.format.specs.Packing.{packed_len, packed, unpacked, packed_end, packed_values}
use Rattle.format.specs.Answers.{stored}
use Rattle.format.specs.Standalone.{unpack_outcome, unpack_buffer}
use Rattle.format.proofs.Numbers.All.{Below, all_drop}
use Rattle.format.proofs.Numbers.Packing.{packed_len-zero}
use Rattle.format.proofs.Codecs.Counts.{length-unpacked}
use Rattle.bitpack.proofs.PackingLaws.{packed_none, packed-append, unpacked-append}

module _ (w : ℕ) where
  -- ---- packing

  pub packed-block : (ns : List ℕ) → packed w ns ≡ packed w (take 128 ns) ++ packed w (drop 128 ns)
  packed-block ns = go (dec_le 128 (length ns))
    where
      go : Dec (128 ≤ length ns) → packed w ns ≡ packed w (take 128 ns) ++ packed w (drop 128 ns)
      go (yes h) =
          ap (packed w) (sym (take-append-drop 128 ns)) ∙ packed-append w 16 (take 128 ns) (drop 128 ns) (omega (arith, length-take 128 ns))
      go (no h) =
          let all : take 128 ns ≡ ns = take_all 128 ns (omega arith) in
          let rest : drop 128 ns ≡ [] = drop_of_length-le ns {i = 128} (omega arith) in
          rw (all, rest, packed_none w [] (packed_len-zero w), append-nil (packed w ns))

  -- ---- reading

  full : packed_len 128 w ≡ 16 * w
  unfolding packed_len
  full = omega arith

  pub values-block : (s : List ℕ) (at left : ℕ) → Below 256 s
      → packed_values s at w left ≡ packed_values s at w (min left 128) ++ packed_values s (at + packed_len (min left 128) w) w (left - min left 128)
  unfolding packed_values unpacked digits
  values-block s at left h = go (dec_le 128 left)
    where
      Parted : ℕ → ℕ → Type 0
      Parted n rest = unpacked w left (drop at s) ≡ unpacked w n (drop at s) ++ unpacked w rest (drop (at + packed_len n w) s)

      go : Dec (128 ≤ left) → Parted (min left 128) (left - min left 128)
      go (yes k) =
          let n : min left 128 ≡ 128 = omega arith in
          let m : 128 + (left - 128) ≡ left = omega arith in
          let b : packed_len 128 w ≡ 16 * w = full in
          rw n
          (ap (λ (i : ℕ). unpacked w i (drop at s)) (sym m)
          ∙ unpacked-append w 16 (left - 128) (all_drop at h)
          ∙ ap (λ (r : List ℕ). unpacked w 128 (drop at s) ++ unpacked w (left - 128) r) (drop-drop (16 * w) at s ∙ ap (λ (i : ℕ). drop (at + i) s) (sym b)))
      go (no k) =
          let n : min left 128 ≡ left = omega arith in
          let z : left - left ≡ 0 = omega arith in
          rw (n, z) (sym (append-nil (unpacked w left (drop at s))))

-- a block that is there: the values, at the front of the buffer
pub unpack-block : (w n : ℕ) (body block : List ℕ) → w ≤ 64 → n ≤ max_chunk_elements → packed_len n w ≤ length body → n ≤ length block
    → unpack_buffer body w n block ≡ stored (unpacked w n body) block
unfolding unpack_buffer unpack_outcome packed_end
unpack-block w n body block hw hn hb hr = rw (le-leb n max_chunk_elements hn, le-leb w 64 hw, le-leb (packed_len n w) (length body - 0) (omega (arith, hb)), le-leb n (length block) hr)

-- and its front
pub unpack-front : (w n : ℕ) (body block : List ℕ) → w ≤ 64 → n ≤ max_chunk_elements → packed_len n w ≤ length body → n ≤ length block
    → take n (unpack_buffer body w n block) ≡ unpacked w n body
unfolding stored
unpack-front w n body block hw hn hb hr =
    ap (take n) (unpack-block w n body block hw hn hb hr) ∙ take_at (unpacked w n body) (drop (length (unpacked w n body)) block) n (length-unpacked w n body)
