-- Plain: what was written is read back. Eight bytes a value: question 9 passes, and each key is read where its bytes occur.
use mathlib.Core.Path.{◌≡◌, refl, ap, ap₂}
use mathlib.Core.List.{List, ◌∷◌}
use Prim.Native.Nat.{ℕ, ◌+◌, ◌-◌, ◌*◌}
use native.Mathlib.Omega.{arith}
use lib.IntN.{ℤ}
use lib.ListN.{length}
use borrow.Author.Tests.{le-leb}
use Rattle.format.specs.Outcome.{ok}
use Rattle.format.specs.Keys.{Key, key_bytes}
use Rattle.format.specs.Plain.{plain_body, validate_plain, plain_values}
use Rattle.format.proofs.Numbers.All.{All, all_none, all_more}
use Rattle.format.proofs.Numbers.Keys.{length-key_bytes, key_at-back}
use Rattle.format.proofs.Numbers.Occurs.{Occurs, occurs-first, occurs-next, occurs-room, occurs-at}
use Rattle.format.proofs.Lengths.Parts.{length-plain_body}
use Rattle.std.specs.Prelude.{Option}

module _ {s : List ℕ} where
  -- Plain: the end of a body that occurs at a place, for any column,
  pub plain-validate :
      {at : ℕ} (column : List ℤ) → Occurs s at (plain_body column) → (padded : Option ℕ)
      → validate_plain s at (length column) padded ≡ ok (record { end = at + length (plain_body column); padded = padded })
  unfolding validate_plain
  plain-validate {at} column o padded =
      rw (le-leb (8 * length column) (length s - at) (omega (arith, length-plain_body column, occurs-room o)), length-plain_body)

  -- and its values, for keys
  pub plain_back : {at : ℕ} {column : List ℤ} → All Key column → Occurs s at (plain_body column) → plain_values s at (length column) ≡ column
  unfolding plain_values plain_body
  plain_back all_none o = refl
  plain_back {at} (all_more {x} {xs} k r) o =
      ap₂ {A = ℤ} {B = List ℤ} (λ v vs. v ∷ vs) (key_at-back x k (occurs-first (key_bytes x) (plain_body xs) o))
      (plain_back {at = at + 8} r (occurs-at (ap (λ (n : ℕ). at + n) (length-key_bytes x)) (occurs-next (key_bytes x) (plain_body xs) o)))
