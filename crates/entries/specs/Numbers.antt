-- The numbers whose varints are a dictionary's entries (01, "first entry as a signed varint; gaps as varints").
use Rattle.std.specs.Prelude.{ℕ, List, [], ◌∷◌, ℤ}
use Rattle.format.specs.Keys.{gap, zigzag}

-- of the entries after the last
unfoldable pub numbers_after : ℤ → List ℤ → List ℕ
numbers_after last [] = []
numbers_after last (e ∷ es) = gap last e ∷ numbers_after e es

-- of all entries
unfoldable pub numbers : List ℤ → List ℕ
numbers [] = []
numbers (e ∷ es) = zigzag e ∷ numbers_after e es
