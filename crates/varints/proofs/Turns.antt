-- A turn of each loop: the varint of a value is measured or stored. What is left shrinks by just that.
use mathlib.Core.Path.{◌≡◌, ap, ◌∙◌}
use mathlib.Core.List.{List, [], ◌++◌}
use Prim.Native.Nat.{ℕ, ◌+◌, ◌≤◌, ◌<◌}
use native.Mathlib.Numerals.{add-one}
use lib.IntN.{ℤ, pos}
use lib.ListN.{length, get_or, drop, drop_of_length-le, length-append}
use lib.Seq.{drop-cons}
use Rattle.std.specs.Prelude.{Option, Some}
use Rattle.std.specs.Option.{IsSome}
use Rattle.format.specs.Keys.{zigzag}
use Rattle.format.specs.Varint.{varint_len, varint_bytes}
use Rattle.format.specs.VarintBody.{varint_body}
use Rattle.format.proofs.Numbers.Keys.{length-varint_bytes}
use Rattle.format.proofs.Numbers.Stores.{Storing}
use Rattle.places.proofs.Placing.{PutUvarint, storing_uvarint, storing_uvarint_some}

-- ---- a column, value by value

module _ (column : List ℤ) (i : ℕ) where
  pub body_end : length column ≤ i → varint_body (drop i column) ≡ []
  unfolding varint_body
  body_end h = rw (drop_of_length-le column h)

  pub body_more : i < length column → varint_body (drop i column) ≡ varint_bytes (get_or column i (pos 0)) ++ varint_body (drop (i + 1) column)
  unfolding varint_body
  body_more h = rw (add-one i, drop-cons column i (pos 0))

  pub length_more : i < length column → length (varint_body (drop i column)) ≡ varint_len (get_or column i (pos 0)) + length (varint_body (drop (i + 1) column))
  length_more h = ap length (body_more h) ∙ simp (length-append, length-varint_bytes)

  -- where there is room for all, a varint more is stored
  module _ {whole l out : List ℕ} {from at : ℕ} {new : List ℕ} {end : Option ℕ} (s : Storing whole l from (varint_body (drop i column)) out at) (h : i < length column)
      (room : from + length whole ≤ length l) (put : PutUvarint (zigzag (get_or column i (pos 0))) out at new end)
    where
      pub put_found : IsSome end
      unfolding varint_bytes
      put_found = storing_uvarint_some s room (zigzag (get_or column i (pos 0))) (varint_body (drop (i + 1) column)) (body_more h) put

      pub store-more : {next : ℕ} → end ≡ Some next → Storing whole l from (varint_body (drop (i + 1) column)) new next
      unfolding varint_bytes
      store-more found = storing_uvarint s room (zigzag (get_or column i (pos 0))) (varint_body (drop (i + 1) column)) (body_more h) put found
