-- Keys in a row, with lengths or without (01, "The chunk": Varint, "one signed varint each"; RunLength, "per run a signed varint and a length").
use Rattle.std.specs.Prelude.{Bool, true, false, cond, List, [], ◌++◌, ℕ, zero, suc, ℤ, leb, length, replicate, take}
use Rattle.format.specs.Answers.{stored}
use Rattle.format.specs.Encodings.{max_chunk_elements}
use Rattle.format.specs.Keys.{unzigzag}
use Rattle.varint.specs.Finding.{found_at}
use Rattle.varint.specs.declared.find.Found.{Found}

-- how often a key stands that ends at `at`, and the place after that
abbrev pub times_after : Bool → List ℕ → ℕ → Found
times_after true s at = found_at s at
times_after false s at = record { value = 1; next = at }

-- the values of n keys from `at` on
unfoldable pub key_rows : Bool → List ℕ → ℕ → ℕ → List ℤ
key_rows lengths s at zero = []
key_rows lengths s at (suc n) =
    let key = found_at s at in
    let times = times_after lengths s key.next in
    replicate times.value (unzigzag key.value) ++ key_rows lengths s times.next n

-- a column filled from n keys, as far as there is room. Asked of more keys than a chunk can have, it stays as it was
unfoldable pub filled_from : Bool → List ℕ → ℕ → ℕ → List ℤ → List ℤ
filled_from lengths s at n column = cond (leb n max_chunk_elements) (stored (take (length column) (key_rows lengths s at n)) column) column
