-- What the calls give together. What was written is read back, at any place and whatever comes before and after (format's laws on reading what occurs). And it
-- is written shortest: the groups that are read make a number below 128 to their count, so they are as many as its written form has, or more.
use Rattle.std.proofs.Common.{◌≡◌, ℕ, ◌+◌, ◌-◌, ◌%◌, ◌^◌, ◌<◌, ◌≤◌, true, List, [], ◌++◌, map, length, drop, ℤ, ap, ◌∙◌, lt_of_le_of_lt, zero-lt-suc, zero-add, arith, le-leb}
use native.Mathlib.Nat.{mod-le}
use lib.ListN.{length-map}
use lib.Seq.{slice, length-slice}
use Rattle.format.specs.Outcome.{ok}
use Rattle.format.specs.Keys.{Key, zigzag, unzigzag}
use Rattle.format.specs.Answers.{stored}
use Rattle.format.specs.Varint.{Uvarint, uvarint_len, uvarint_bytes, varint_len, varint_bytes, uvarint_value, read_uvarint}
use Rattle.format.specs.Standalone.{read_varint, uvarint_write_outcome, uvarint_write_output, varint_write_output}
use Rattle.format.proofs.Numbers.Digits.{of_digits-lt, below-map}
use Rattle.format.proofs.Numbers.Keys.{unzigzag-zigzag, zigzag-lt}
use Rattle.format.proofs.Numbers.Occurs.{occurs-middle}
use Rattle.format.proofs.Numbers.Uvarints.{length-uvarint_bytes, read_uvarint-back}
use Rattle.format.proofs.Numbers.Widths.{uvarint_len_least}
use Rattle.number.proofs.ZigZag.{zigzag-unzigzag}
use Rattle.varint.proofs.Answers.{read-range}
use Rattle.varint.proofs.Reading.{was_read}

-- ---- read back

module _ (pre rest : List ℕ) where
  -- a number below 2^64
  pub uvarint-back : (x : ℕ) → x < 2 ^ 64 → read_uvarint (pre ++ (uvarint_bytes x ++ rest)) (length pre) ≡ was_read x (length pre + uvarint_len x) true
  uvarint-back x h =
      read_uvarint-back x h (occurs-middle pre (uvarint_bytes x) rest)
      ∙ ap (λ (n : ℕ). was_read x (length pre + n) true) (length-uvarint_bytes x)

-- a key, from its ZigZag
key_read : (s : List ℕ) (at : ℕ) {next : ℕ} (v : ℤ) → read_uvarint s at ≡ was_read (zigzag v) next true → read_varint s at ≡ ok (record { value = v; next = next; unpadded = true })
unfolding read_varint
key_read s at v e = rw (e, unzigzag-zigzag v)

pub varint-back :
    (pre rest : List ℕ) (v : ℤ) → Key v
    → read_varint (pre ++ (varint_bytes v ++ rest)) (length pre) ≡ ok (record { value = v; next = length pre + varint_len v; unpadded = true })
unfolding varint_bytes varint_len
varint-back pre rest v k = key_read _ _ v (uvarint-back pre rest (zigzag v) (zigzag-lt v k))

-- what a call stored, where there was room
pub uvarint_write_output-back :
    (x : ℕ) (output : List ℕ) → x < 2 ^ 64 → uvarint_len x ≤ length output → read_uvarint (uvarint_write_output x output) 0 ≡ was_read x (uvarint_len x) true
unfolding uvarint_write_output uvarint_write_outcome stored
uvarint_write_output-back x output h k =
    rw (le-leb (uvarint_len x) (length output) k)
    (uvarint-back [] (drop (length (uvarint_bytes x)) output) x h ∙ ap (λ (n : ℕ). was_read x n true) (zero-add (uvarint_len x)))

pub varint_write_output-back :
    (v : ℤ) (output : List ℕ) → Key v → varint_len v ≤ length output
    → read_varint (varint_write_output v output) 0 ≡ ok (record { value = v; next = varint_len v; unpadded = true })
unfolding varint_write_output varint_len
varint_write_output-back v output h k = key_read _ _ v (uvarint_write_output-back (zigzag v) output (zigzag-lt v h) k)

-- ---- shortest

-- so many groups are worth less than 128 to their number
value-lt : (s : List ℕ) (at next : ℕ) → next ≤ length s → uvarint_value s at next < 128 ^ (next - at)
unfolding uvarint_value
value-lt s at next h =
    let l : length (map (λ b. b % 128) (slice at next s)) ≡ next - at = simp length-map (length-slice at next s h) in
    lt_of_le_of_lt (mod-le _ _) (rw l at (of_digits-lt (below-map 128 (zero-lt-suc 127) (slice at next s))))

-- WRITTEN SHORTEST: no varint that is read as a value has fewer bytes than the value's written form
pub written-shortest : (s : List ℕ) (at : ℕ) (v : Uvarint) → read_uvarint s at ≡ ok v → uvarint_len v.value ≤ v.next - at
written-shortest s at v e =
    let r = read-range s at v e in
    uvarint_len_least v.value (v.next - at) (omega (arith, r.0)) (rw r.2 (value-lt s at v.next r.1))

-- nor has a signed varint fewer than the key that it is read as
pub signed-shortest : (s : List ℕ) (at : ℕ) (v : Uvarint) → read_uvarint s at ≡ ok v → varint_len (unzigzag v.value) ≤ v.next - at
unfolding varint_len
signed-shortest s at v e = rw (zigzag-unzigzag v.value) (written-shortest s at v e)
