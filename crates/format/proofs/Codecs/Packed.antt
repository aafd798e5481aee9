-- Packed numbers, read where they occur in a chunk: a width byte and a packed body pass questions 10, 12 and 13, and the numbers are there again if they fit the
-- width, as they do at the width of the largest.
use mathlib.Core.Path.{◌≡◌, ap, ◌∙◌}
use Prim.Native.Nat.{ℕ, suc, ◌+◌, ◌-◌, ◌%◌, ◌^◌, ◌≤◌}
use native.Mathlib.Omega.{arith}
use mathlib.Core.List.{List, ◌∷◌, map}
use lib.ListN.{length, get_or}
use borrow.Author.Tests.{lt-ltb, le-leb}
use Rattle.format.specs.Outcome.{ok}
use Rattle.format.specs.Width.{width}
use Rattle.format.specs.Packing.{packed_len, packed, width_at, packed_end, packed_values}
use Rattle.format.specs.Folds.{largest}
use Rattle.format.specs.BitPacked.{packed_body}
use Rattle.format.proofs.Numbers.All.{Below}
use Rattle.format.proofs.Numbers.Packing.{unpacked-packed, length-packed}
use Rattle.format.proofs.Numbers.Widths.{width-le}
use Rattle.format.proofs.Numbers.Extremes.{mod_below, below-widest}
use Rattle.format.proofs.Numbers.Occurs.{Occurs, occurs-tail, occurs-byte, occurs-room}

module _ {s : List ℕ} {at : ℕ} where
  -- the width byte that occurs at a place
  pub width_read : {b : ℕ} {bs : List ℕ} → Occurs s at (b ∷ bs) → width_at s at ≡ ok b
  unfolding width_at
  width_read o = rw (lt-ltb at (length s) (omega (arith, occurs-room o)), occurs-byte o)

  -- a packed body that occurs at a place: its end
  pub packed-end : (w : ℕ) (ns : List ℕ) → w ≤ 64 → Occurs s at (packed w ns) → packed_end s at w (length ns) ≡ ok (at + packed_len (length ns) w)
  unfolding packed_end
  packed-end w ns k o = rw (le-leb w 64 k, le-leb (packed_len (length ns) w) (length s - at) (omega (arith, length-packed w ns, occurs-room o)))

  -- and its values, without their bits above the width
  pub packed-cut : (w : ℕ) (ns : List ℕ) → Occurs s at (packed w ns) → packed_values s at w (length ns) ≡ map (λ n. n % 2 ^ w) ns
  unfolding packed_values
  packed-cut w ns o = rw o.here (unpacked-packed w ns o.rest)

  -- the values themselves, where they fit the width
  pub packed-back : (w : ℕ) (ns : List ℕ) → Below (2 ^ w) ns → Occurs s at (packed w ns) → packed_values s at w (length ns) ≡ ns
  packed-back w ns k o = packed-cut w ns o ∙ mod_below k

module _ {s : List ℕ} {at : ℕ} (ns : List ℕ) (b : Below (2 ^ 64) ns) (o : Occurs s at (packed_body ns)) where
  -- a width byte and the numbers packed at it, read where they occur: the width,
  pub body-width : width_at s at ≡ ok (width (largest ns))
  unfolding packed_body
  body-width = width_read o

  -- its byte,
  pub body-byte : get_or s at 0 ≡ width (largest ns)
  unfolding packed_body
  body-byte = occurs-byte o

  -- the end,
  pub body_end : packed_end s (at + 1) (width (largest ns)) (length ns) ≡ ok (at + length (packed_body ns))
  unfolding packed_body
  body_end =
      let e : at + 1 + packed_len (length ns) (width (largest ns)) ≡ at + suc (length (packed (width (largest ns)) ns)) = omega (arith, length-packed (width (largest ns)) ns) in
      packed-end (width (largest ns)) ns (width-le (largest ns)) (occurs-tail o) ∙ ap ok e

  -- and the numbers
  pub body_back : packed_values s (at + 1) (width (largest ns)) (length ns) ≡ ns
  unfolding packed_body
  body_back = packed-back (width (largest ns)) ns (below-widest b) (occurs-tail o)
