-- FrameOfReference: what was written is read back. The differences from the least value fit the width of the largest, and give the keys back when they are added
-- to it again.
use mathlib.Core.Path.{◌≡◌, ap}
use Prim.Native.Nat.{ℕ, ◌+◌, ◌≤◌}
use native.Mathlib.Nat.{add_assoc}
use native.Mathlib.Omega.{arith}
use mathlib.Core.List.{List, map}
use lib.IntN.{ℤ}
use lib.ListN.{length, length-append, length-map}
use borrow.Author.Tests.{le-leb}
use Rattle.format.specs.Outcome.{ok}
use Rattle.format.specs.Keys.{gap, key_bytes, Key}
use Rattle.format.specs.Folds.{least}
use Rattle.format.specs.BitPacked.{packed_body}
use Rattle.format.specs.Frame.{frame_body, validate_frame, frame_values}
use Rattle.format.proofs.Numbers.Keys.{length-key_bytes, key_at-back}
use Rattle.format.proofs.Numbers.Columns.{below-gaps, map-wrapping_add}
use Rattle.format.proofs.Numbers.All.{All}
use Rattle.format.proofs.Numbers.Extremes.{least-key}
use Rattle.format.proofs.Numbers.Occurs.{Occurs, occurs-first, occurs-next, occurs-room, occurs-at}
use Rattle.format.proofs.Codecs.Packed.{body-byte, body_end, body_back}
use Rattle.std.specs.Prelude.{Option}

module _ {s : List ℕ} {at : ℕ} (column : List ℤ) (o : Occurs s at (frame_body column)) where
  -- the least value's bytes, the packed differences after them, and the length of both
  frame-base : Occurs s at (key_bytes (least column))
  unfolding frame_body
  frame-base = occurs-first (key_bytes (least column)) (packed_body (map (gap (least column)) column)) o

  frame-part : Occurs s (at + 8) (packed_body (map (gap (least column)) column))
  unfolding frame_body
  frame-part =
      occurs-at (ap (λ (n : ℕ). at + n) (length-key_bytes (least column)))
      (occurs-next (key_bytes (least column)) (packed_body (map (gap (least column)) column)) o)

  frame-length : length (frame_body column) ≡ 8 + length (packed_body (map (gap (least column)) column))
  unfolding frame_body
  frame-length = simp (length-append, length-key_bytes)

module _ {s : List ℕ} {at : ℕ} {column : List ℤ} (ks : All Key column) where
  -- FrameOfReference: the end of a body that occurs at a place,
  pub frame-validate :
      Occurs s at (frame_body column) → (padded : Option ℕ)
      → validate_frame s at (length column) padded ≡ ok (record { end = at + length (frame_body column); padded = padded })
  unfolding validate_frame packed_body
  frame-validate o padded =
      let low : ℤ = least column in
      let p : Occurs s (at + 8) (packed_body (map (gap low) column)) = frame-part column o in
      let nine : at + 9 ≤ length s = omega (arith, occurs-room p) in
      let e : at + 8 + 1 ≡ at + 9 = omega arith in
      rw (
        le-leb (at + 9) (length s) nine,
        body-byte (map (gap low) column) (below-gaps low column) p,
        ← length-map column (gap low),
        ← e,
        body_end (map (gap low) column) (below-gaps low column) p,
        frame-length column o,
        ← add_assoc,
      )

  -- and its values
  pub frame_back : Occurs s at (frame_body column) → frame_values s at (length column) ≡ column
  unfolding frame_values
  frame_back o =
      let low : ℤ = least column in
      let p : Occurs s (at + 8) (packed_body (map (gap low) column)) = frame-part column o in
      let e : at + 8 + 1 ≡ at + 9 = omega arith in
      rw (
        body-byte (map (gap low) column) (below-gaps low column) p,
        key_at-back low (least-key ks) (frame-base column o),
        ← length-map column (gap low),
        ← e,
        body_back (map (gap low) column) (below-gaps low column) p,
      )
      (map-wrapping_add low ks)
