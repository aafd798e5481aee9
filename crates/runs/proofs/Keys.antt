-- A run's key: it is read where it has an end, and is unpadded where it has one byte or a last one that is not 0.
use mathlib.Core.Path.{◌≡◌, refl}
use mathlib.Core.Bool.{true}
use mathlib.Core.List.{List}
use Prim.Native.Nat.{ℕ, ◌+◌, ◌-◌, ◌≤◌, ◌<◌}
use native.Mathlib.Omega.{arith}
use lib.Dec.{eqb}
use lib.ListN.{length, get_or, drop}
use borrow.Author.Tests.{eq-eqb, ne_eqb}
use Rattle.std.specs.Prelude.{Option, None, Some}
use Rattle.std.proofs.lemmas.Bool.{or_right}
use Rattle.format.specs.Outcome.{Outcome, refused, ok}
use Rattle.format.specs.Varint.{uvarint_end, uvarint_value, ends_unpadded, read_uvarint, validate_uvarints}
use Rattle.format.proofs.Numbers.UvarintRows.{first_padded-unpadded}
use Rattle.varint.specs.Finding.{end_in}
use Rattle.varint.proofs.Answers.{read-range}

module _ (s : List ℕ) (at : ℕ) {end : ℕ} (e : Some end ≡ end_in s at) where
  -- it is read
  read-there : read_uvarint s at ≡ ok (record { value = uvarint_value s at end; next = end; unpadded = ends_unpadded s at end })
  unfolding read_uvarint
  read-there = go (uvarint_end at 10 (drop at s) at) refl
    where
      go : (o : Outcome ℕ) → uvarint_end at 10 (drop at s) at ≡ o
          → read_uvarint s at ≡ ok (record { value = uvarint_value s at end; next = end; unpadded = ends_unpadded s at end })
      go (refused number offset) w = let none : Some end ≡ None = rw w at e in cc
      go (ok next) w = let same : end ≡ next = (let there : Some end ≡ Some next = rw w at e in cc) in rw (w, same)

  pub end_range : (at < end) × (end ≤ length s)
  end_range = let r = read-range s at _ read-there in (r.0, r.1)

  tight_extent : ends_unpadded s at end ≡ true → (padded : Option ℕ) → ok (record { end = end; padded = padded }) ≡ validate_uvarints s at 1 padded
  unfolding validate_uvarints
  tight_extent u padded = rw (read-there, u, first_padded-unpadded padded at)

  -- its last byte is not 0
  pub tight_last : (get_or s (end - 1) 0 ≡ 0 → ⊥) → (padded : Option ℕ) → ok (record { end = end; padded = padded }) ≡ validate_uvarints s at 1 padded
  unfolding ends_unpadded
  tight_last z = tight_extent (rw (ne_eqb (get_or s (end - 1) 0) 0 z) (or_right (eqb end (at + 1)) true refl))

  -- it has one byte
  pub tight_one : end - at ≡ 1 → (padded : Option ℕ) → ok (record { end = end; padded = padded }) ≡ validate_uvarints s at 1 padded
  unfolding ends_unpadded
  tight_one o = tight_extent (let n : end ≡ at + 1 = omega arith in rw (eq-eqb end (at + 1) n))
