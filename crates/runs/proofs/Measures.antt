-- Measuring the runs of a column: what was measured and what is still to come are the whole. A column of up to 2^24 values has no more runs, of at most 20 bytes
-- each, so no sum wraps, and room for 20 bytes a value is enough.
use mathlib.Core.Path.{◌≡◌, ap, ◌∙◌}
use mathlib.Core.List.{List, [], ◌∷◌}
use Prim.Native.Nat.{ℕ, ◌+◌, ◌*◌, ◌≤◌}
use native.Mathlib.Omega.{arith}
use lib.IntN.{ℤ}
use lib.ListN.{length, length-append}
use Rattle.format.specs.Header.{header_len}
use Rattle.format.specs.Varint.{uvarint_len, varint_len, uvarint_bytes}
use Rattle.format.specs.Runs.{Run, runs, run_bytes, run_body}
use Rattle.format.proofs.Numbers.Keys.{length-varint_bytes}
use Rattle.format.proofs.Numbers.Uvarints.{length-uvarint_bytes}
use Rattle.format.proofs.Numbers.Widths.{uvarint_len_le}
use Rattle.format.proofs.Lengths.Parts.{length-run_bytes}
use Rattle.format.proofs.Lengths.Limits.{total-run_len-most}
use Rattle.runs.specs.RunAt.{to_come}
use Rattle.runs.specs.declared.writing.Runs.{Runs}
use Rattle.runs.proofs.RunEnds.{taken, none_after}

-- a header has twelve bytes at most
pub header_most : (count : ℕ) → header_len count ≤ 12
unfolding header_len
header_most count = omega (arith, uvarint_len_le count)

-- how long the bytes of a run and of those after it are
length-first : (r : Run) (rs : List Run) → length (run_bytes (r ∷ rs)) ≡ varint_len r.key + uvarint_len r.times + length (run_bytes rs)
unfolding run_bytes
length-first r rs = simp (length-append, length-varint_bytes, length-uvarint_bytes)

-- a run more
pub measure_next : (r rest : Runs) {k : ℤ} {t : ℕ} → to_come r ≡ (k, t) ∷ to_come rest
    → length (run_bytes (runs r.0.now)) ≡ varint_len k + uvarint_len t + length (run_bytes (runs rest.0.now))
measure_next r rest e = ap (λ (rs : List Run). length (run_bytes rs)) (taken r rest e) ∙ length-first _ _

-- none is left
pub measure_end : (r : Runs) → to_come r ≡ [] → length (run_bytes (runs r.0.now)) ≡ 0
unfolding run_bytes
measure_end r e = ap (λ (rs : List Run). length (run_bytes rs)) (none_after r e)

module _ (column : List ℤ) where
  -- 20 bytes a value are enough
  pub run_bytes_most : length (run_bytes (runs column)) ≤ 20 * length column
  run_bytes_most = omega (arith, length-run_bytes (runs column), total-run_len-most column)

  -- the total's length and the runs' are the body's
  pub body_len : length (run_body column) ≡ uvarint_len (length (runs column)) + length (run_bytes (runs column))
  unfolding run_body
  body_len = omega (arith, length-append (uvarint_bytes (length (runs column))) (run_bytes (runs column)), length-uvarint_bytes (length (runs column)))
