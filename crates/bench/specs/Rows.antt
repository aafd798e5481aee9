-- Varints in a row: as many as are read before one is refused, and as many as are written before one does not fit. Both are forward walks over the calls
-- for one varint.
use Rattle.std.specs.Prelude.{ℕ, zero, suc, ◌-◌, List, [], ◌∷◌, ◌++◌, length}
use Rattle.format.specs.Outcome.{ok, ◌>>=◌, value_or}
use Rattle.format.specs.Varint.{read_uvarint}
use Rattle.format.specs.Standalone.{uvarint_write_outcome}

-- the values of the varints from `at` on: `room` of them, or fewer where one is refused
unfoldable pub row_values : List ℕ → ℕ → ℕ → List ℕ
row_values s at zero = []
row_values s at (suc room) = value_or [] do
  v ← read_uvarint s at
  ok (v.value ∷ row_values s v.next room)

-- the bytes of the values' varints, for an output of `space` bytes: of all of them, or of fewer where one does not fit
unfoldable pub row_bytes : List ℕ → ℕ → List ℕ
row_bytes [] space = []
row_bytes (x ∷ xs) space = value_or [] do
  bytes ← uvarint_write_outcome x space
  ok (bytes ++ row_bytes xs (space - length bytes))
