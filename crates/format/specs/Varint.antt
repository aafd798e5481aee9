-- Varints (01, "Numbers as bytes"): "A varint is 7-bit groups, lowest first, top bit set on all but the last byte. Its value is the sum modulo 2^64, so a
-- tenth byte counts by its lowest bit. Written shortest; longer forms up to ten bytes are read."
-- Names follow the Rust: 01's varint is a `uvarint` here, and 01's signed varint, "the varint of the ZigZag", a `varint`.
use Rattle.std.specs.Prelude.{ℕ, zero, suc, ◌+◌, ◌-◌, ◌/◌, ◌%◌, ◌^◌, max, Bool, true, false, cond, not, ◌||◌, List, [], ◌∷◌, map, ℤ, ltb, eqb, get_or, drop, Option, Some, None}
use Rattle.std.proofs.Math.Seq.{slice}
use Rattle.format.specs.Outcome.{Outcome, refused, ok, ◌>>=◌, value_or}
use Rattle.format.specs.Digits.{of_digits, digits}
use Rattle.format.specs.Keys.{zigzag}
use Rattle.format.specs.Width.{width}
use Rattle.format.specs.declared.Read.{Read}
use Rattle.format.specs.declared.Extent.{Extent}

-- ---- writing

-- "Written shortest": how many 7-bit groups hold x, one at least
unfoldable pub uvarint_len : ℕ → ℕ
uvarint_len x = max 1 ((width x + 6) / 7)

-- "top bit set on all but the last byte": the continuation bits
unfoldable pub continued : List ℕ → List ℕ
continued [] = []
continued (g ∷ []) = g ∷ []
continued (g ∷ h ∷ gs) = (g + 128) ∷ continued (h ∷ gs)

-- "7-bit groups, lowest first, top bit set on all but the last byte." "Written shortest"
unfoldable pub uvarint_bytes : ℕ → List ℕ
uvarint_bytes x = continued (digits 128 (uvarint_len x) x)

-- "A signed varint is the varint of the ZigZag."
unfoldable pub varint_len : ℤ → ℕ
varint_len v = uvarint_len (zigzag v)

unfoldable pub varint_bytes : ℤ → List ℕ
varint_bytes v = uvarint_bytes (zigzag v)

-- ---- reading

-- a varint that was read
abbrev pub Uvarint : Type 0
Uvarint = Read ℕ

-- The place just after the varint that begins at `start`: a walk whose next byte, at the place `at`, is the first of `rest`; `left` more bytes may come.
-- "next byte there? 6; is it no eleventh byte? 7; both at the varint's start."
unfoldable pub uvarint_end : ℕ → ℕ → List ℕ → ℕ → Outcome ℕ
uvarint_end start left [] at = refused 6 start
uvarint_end start zero (b ∷ rest) at = refused 7 start
uvarint_end start (suc left) (b ∷ rest) at = cond (ltb b 128) (ok (at + 1)) (uvarint_end start left rest (at + 1))

-- "Its value is the sum modulo 2^64": of the bytes from one place to another, without their top bits
unfoldable pub uvarint_value : List ℕ → ℕ → ℕ → ℕ
uvarint_value s from to = of_digits 128 (map (λ b. b % 128) (slice from to s)) % 2 ^ 64

-- "does every varint read end on a nonzero byte, or have one byte?": its last byte is not 0, unless it is the only one
unfoldable pub ends_unpadded : List ℕ → ℕ → ℕ → Bool
ends_unpadded s from to = eqb to (from + 1) || not (eqb (get_or s (to - 1) 0) 0)

-- reading the varint that begins at a place of s, past its end or not: its value, the place after it, and whether it is unpadded
unfoldable pub read_uvarint : List ℕ → ℕ → Outcome Uvarint
read_uvarint s at = do
  next ← uvarint_end at 10 (drop at s) at
  ok (record { value = uvarint_value s at next; next = next; unpadded = ends_unpadded s at next })

-- the same where it was read before
unfoldable pub uvarint_at : List ℕ → ℕ → Uvarint
uvarint_at s at = value_or (record { value = 0; next = 0; unpadded = true }) (read_uvarint s at)

-- ---- a part of a chunk: where it ends, and the start of the first padded varint so far, which is 25's offset

-- the first padded varint, when the one at `at` is read too
abbrev pub first_padded : Option ℕ → ℕ → Bool → Option ℕ
first_padded (Some first) at unpadded = Some first
first_padded None at true = None
first_padded None at false = Some at

-- n varints in a row: a walk from `at` on
unfoldable pub validate_uvarints : List ℕ → ℕ → ℕ → Option ℕ → Outcome Extent
validate_uvarints s at zero padded = ok (record { end = at; padded = padded })
validate_uvarints s at (suc n) padded = do
  v ← read_uvarint s at
  validate_uvarints s v.next n (first_padded padded at v.unpadded)

-- n varints in a row from `at` on, where they were read before: their values, and the place after them
unfoldable pub uvarint_values : List ℕ → ℕ → ℕ → List ℕ
uvarint_values s at zero = []
uvarint_values s at (suc n) = (uvarint_at s at).value ∷ uvarint_values s (uvarint_at s at).next n

unfoldable pub after_uvarints : List ℕ → ℕ → ℕ → ℕ
after_uvarints s at zero = at
after_uvarints s at (suc n) = after_uvarints s (uvarint_at s at).next n
