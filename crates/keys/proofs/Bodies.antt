-- The keys of a body in a row are its values: without lengths Varint's, with lengths RunLength's. Where there is room for all, filling stores just these.
use mathlib.Core.Path.{◌≡◌, refl, ap}
use mathlib.Core.Bool.{true, false}
use mathlib.Core.List.{List, ◌∷◌, ◌++◌}
use Prim.Native.Nat.{ℕ, zero, suc, ◌≤◌}
use lib.IntN.{ℤ}
use lib.ListN.{length, replicate, length-map}
use lib.Seq.{take_all}
use borrow.Author.Tests.{le-leb}
use Rattle.format.specs.Answers.{stored}
use Rattle.format.specs.Encodings.{max_chunk_elements}
use Rattle.format.specs.Keys.{unzigzag}
use Rattle.format.specs.Varint.{uvarint_at, uvarint_values}
use Rattle.format.specs.VarintBody.{varint_body_values}
use Rattle.format.specs.Runs.{run_values}
use Rattle.format.proofs.Codecs.Counts.{length-uvarint_values}
use Rattle.keys.specs.Rows.{key_rows, filled_from}

module _ (s : List ℕ) where
  keys-alone : (at n : ℕ) → key_rows false s at n ≡ varint_body_values s at n
  unfolding key_rows varint_body_values uvarint_values
  keys-alone at zero = refl
  keys-alone at (suc n) = ap (λ (vs : List ℤ). unzigzag (uvarint_at s at).value ∷ vs) (keys-alone (uvarint_at s at).next n)

  keys-run : (at n : ℕ) → key_rows true s at n ≡ run_values s at n
  unfolding key_rows run_values
  keys-run at zero = refl
  keys-run at (suc n) =
      let key = uvarint_at s at in
      let times = uvarint_at s key.next in
      ap (λ (vs : List ℤ). replicate times.value (unzigzag key.value) ++ vs) (keys-run times.next n)

  pub length-varint_body_values : (at n : ℕ) → length (varint_body_values s at n) ≡ n
  unfolding varint_body_values
  length-varint_body_values at n = simp (length-map, length-uvarint_values)

  -- all of them, where there is room
  module _ (at n : ℕ) (column : List ℤ) (few : n ≤ max_chunk_elements) where
    pub all-alone : n ≤ length column → filled_from false s at n column ≡ stored (varint_body_values s at n) column
    unfolding filled_from
    all-alone h =
        rw (le-leb n max_chunk_elements few, keys-alone at n, take_all (length column) (varint_body_values s at n) (rw (length-varint_body_values at n) h))

    pub all-run : length (run_values s at n) ≤ length column → filled_from true s at n column ≡ stored (run_values s at n) column
    unfolding filled_from
    all-run h = rw (le-leb n max_chunk_elements few, keys-run at n, take_all (length column) (run_values s at n) h)
