-- A walk along varints that asks: what is left to be asked, by whether one is left.
use mathlib.Core.Path.{◌≡◌}
use mathlib.Core.List.{List}
use Prim.Native.Nat.{ℕ, suc, ◌-◌, ◌+◌, ◌<◌, ◌≤◌}
use native.Mathlib.Omega.{arith}
use Rattle.std.specs.Prelude.{Option}
use Rattle.format.specs.Outcome.{ok, ◌>>=◌}
use Rattle.format.specs.Varint.{read_uvarint, first_padded, validate_uvarints}

module _ (s : List ℕ) (at n i : ℕ) (padded : Option ℕ) where
  pub row_next : i < n → validate_uvarints s at (n - i) padded ≡ (read_uvarint s at >>= λ v. validate_uvarints s v.next (n - (i + 1)) (first_padded padded at v.unpadded))
  unfolding validate_uvarints
  row_next h = let k : n - i ≡ suc (n - (i + 1)) = omega arith in rw k

  pub row_end : n ≤ i → validate_uvarints s at (n - i) padded ≡ ok (record { end = at; padded = padded })
  unfolding validate_uvarints
  row_end h = let k : n - i ≡ 0 = omega arith in rw k
