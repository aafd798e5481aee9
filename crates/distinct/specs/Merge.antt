-- Two rising lists made one, in place: the first i values of a scratch, and others that wait beside it. No public contract cites this file.
use Rattle.std.specs.Prelude.{◌≡◌, List, ◌++◌, ℕ, ◌+◌, ◌≤◌, ℤ, length, take, drop}
use Rattle.format.specs.Distinct.{distinct_from, Rising}

-- the scratch once they are one list
unfoldable pub merged : List ℤ → ℕ → List ℤ → List ℤ
merged s i waiting = distinct_from (take i s) waiting ++ drop (i + length waiting) s

-- both rise, no key is in both, and there is room
pub record Mergeable (s : List ℤ) (i : ℕ) (waiting : List ℤ) : Type 0 where
  pub room : i + length waiting ≤ length s
  pub front : Rising (take i s)
  pub rest : Rising waiting
  pub apart : length (distinct_from (take i s) waiting) ≡ i + length waiting

-- a scratch in which the values that are greater than the last that waits went up, so that the first i are left: they will be the same list
pub record Raised (old : List ℤ) (from : ℕ) (waiting : List ℤ) (s : List ℤ) (i : ℕ) : Type 0 where
  pub long : length s ≡ length old
  pub still : Mergeable s i waiting
  pub same : merged s i waiting ≡ merged old from waiting
