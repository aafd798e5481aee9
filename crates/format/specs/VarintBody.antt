-- 2. Varint (01, "The chunk"): "one signed varint each."
use Rattle.std.specs.Prelude.{ℕ, List, [], ◌∷◌, ◌++◌, map, ℤ, Option}
use Rattle.format.specs.Outcome.{Outcome}
use Rattle.format.specs.Keys.{unzigzag}
use Rattle.format.specs.declared.Extent.{Extent}
use Rattle.format.specs.Varint.{varint_bytes, validate_uvarints, uvarint_values}

-- what writing stores after the header
unfoldable pub varint_body : List ℤ → List ℕ
varint_body [] = []
varint_body (v ∷ vs) = varint_bytes v ++ varint_body vs

-- reading, from the body's start on: `count` varints
unfoldable pub validate_varint_body : List ℕ → ℕ → ℕ → Option ℕ → Outcome Extent
validate_varint_body s start count padded = validate_uvarints s start count padded

-- the values of a body that was read
unfoldable pub varint_body_values : List ℕ → ℕ → ℕ → List ℤ
varint_body_values s start count = map unzigzag (uvarint_values s start count)
