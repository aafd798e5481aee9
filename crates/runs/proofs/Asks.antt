-- A walk along runs that asks: what is left to be asked, by whether a run is left. The key's questions are those of one varint.
use mathlib.Core.Path.{◌≡◌, refl}
use mathlib.Core.List.{List}
use Prim.Native.Nat.{ℕ, suc, ◌-◌, ◌+◌, ◌<◌, ◌≤◌}
use native.Mathlib.Omega.{arith}
use lib.Dec.{leb, eqb}
use borrow.Author.Tests.{leb-true}
use borrow.Author.Rules.{rules}
use Rattle.std.specs.Prelude.{Option}
use Rattle.std.specs.Option.{IsSome}
use Rattle.varint.specs.Finding.{found_in}
use Rattle.format.specs.Outcome.{Outcome, refused, ok, check, ◌>>=◌}
use Rattle.format.specs.Varint.{read_uvarint, uvarint_at, first_padded, validate_uvarints}
use Rattle.format.specs.Runs.{validate_runs, validate_run_length}
use Rattle.format.specs.declared.Extent.{Extent}
use Rattle.format.specs.Varint.{Uvarint}
use Rattle.format.proofs.Codecs.Outcome.{both-passed, check-passed}
use Rattle.format.proofs.Codecs.Counts.{uvarint-again}

module _ (s : List ℕ) (at n i left : ℕ) (padded : Option ℕ) where
  -- the questions of a run's length, after its key's, and then those of the other runs
  abbrev times : Extent → Outcome Extent
  times key =
      read_uvarint s key.end >>= λ t.
      check (leb t.value left) 15 t.next >>= λ _.
      validate_runs s t.next (n - (i + 1)) (left - t.value) (first_padded key.padded key.end t.unpadded)

  pub run_next : i < n → validate_runs s at (n - i) left padded ≡ (validate_uvarints s at 1 padded >>= times)
  unfolding validate_runs validate_uvarints
  run_next h = let k : n - i ≡ suc (n - (i + 1)) = omega arith in rw k (go (read_uvarint s at))
    where
      go : (o : Outcome Uvarint)
          → (o >>= λ key. times (record { end = key.next; padded = first_padded padded at key.unpadded }))
          ≡ ((o >>= λ key. ok (record { end = key.next; padded = first_padded padded at key.unpadded })) >>= times)
      go (refused number offset) = refl
      go (ok key) = refl

  pub runs_end : n ≤ i → validate_runs s at (n - i) left padded ≡ (check (eqb left 0) 16 0 >>= λ _. ok (record { end = at; padded = padded }))
  unfolding validate_runs
  runs_end h = let k : n - i ≡ 0 = omega arith in rw k

-- how many runs a body has that passed was read
pub passed-read : (s : List ℕ) (start count : ℕ) (padded : Option ℕ) {e : Extent} → validate_run_length s start count padded ≡ ok e → IsSome (found_in s start)
unfolding validate_run_length
passed-read s start count padded h = both-passed (read_uvarint s start) _ h λ n r _. rw r (search rules)

-- a body that passed has no more runs than values
pub passed-few : (s : List ℕ) (start count : ℕ) (padded : Option ℕ) {e : Extent} → validate_run_length s start count padded ≡ ok e → (uvarint_at s start).value ≤ count
unfolding validate_run_length
passed-few s start count padded h =
    both-passed (read_uvarint s start) _ h λ n r h₁.
    both-passed (check (leb n.value count) 14 n.next) _ h₁ λ _ few _.
    rw (uvarint-again s start r) (leb-true n.value count (check-passed _ 14 _ few))
