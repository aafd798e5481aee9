-- 6. Dictionary (01, "The chunk"): "entry total; first entry as a signed varint; gaps as varints; width byte; packed codes. Written entries are the distinct
-- values, rising. No entries: only total and width."
use Rattle.std.specs.Prelude.{ℕ, suc, ◌+◌, ◌-◌, Bool, true, cond, ◌&&◌, List, [], ◌∷◌, ◌++◌, map, ℤ, pos, leb, ltb, length, get_or, Option}
use Rattle.std.specs.Int.Signed.{lt_z}
use Rattle.format.specs.Outcome.{Outcome, ok, check, ◌>>=◌}
use Rattle.format.specs.Keys.{gap, wrapping_add, unzigzag}
use Rattle.format.specs.declared.Extent.{Extent}
use Rattle.format.specs.Varint.{uvarint_bytes, varint_bytes, read_uvarint, uvarint_at, first_padded, validate_uvarints, uvarint_values, after_uvarints}
use Rattle.format.specs.Width.{width}
use Rattle.format.specs.Packing.{packed, width_at, packed_end, packed_values}
use Rattle.format.specs.Distinct.{distinct}

-- ---- writing

-- "gaps as varints": after an entry `last`, the rest is still to come
unfoldable pub gap_bytes : ℤ → List ℤ → List ℕ
gap_bytes last [] = []
gap_bytes last (e ∷ es) = uvarint_bytes (gap last e) ++ gap_bytes e es

-- "first entry as a signed varint; gaps as varints", and of no entries nothing
unfoldable pub entry_bytes : List ℤ → List ℕ
entry_bytes [] = []
entry_bytes (e ∷ es) = varint_bytes e ++ gap_bytes e es

-- a value's code, its place among rising entries: how many of them are less
unfoldable pub code_of : List ℤ → ℤ → ℕ
code_of [] v = 0
code_of (e ∷ es) v = cond (lt_z e v) (suc (code_of es v)) 0

-- "for codes, of entries less one": the width for so many entries
unfoldable pub code_width : ℕ → ℕ
code_width entries = width (entries - 1)

-- the body for a column and its entries
unfoldable pub dictionary_body_with : List ℤ → List ℤ → List ℕ
dictionary_body_with entries column =
    uvarint_bytes (length entries) ++ (entry_bytes entries ++ (code_width (length entries) ∷ packed (code_width (length entries)) (map (code_of entries) column)))

-- what writing stores after the header. "Written entries are the distinct values, rising."
unfoldable pub dictionary_body : List ℤ → List ℕ
dictionary_body column = dictionary_body_with (distinct column) column

-- ---- reading

-- "Each code below entries?"
unfoldable pub all_below : ℕ → List ℕ → Bool
all_below entries [] = true
all_below entries (c ∷ cs) = ltb c entries && all_below entries cs

-- Reading, from the body's start on. "Entries at most the bytes left? 17, just after." The entries are as many varints in a row.
-- "Each code below entries? 18, the width byte's place."
unfoldable pub validate_dictionary : List ℕ → ℕ → ℕ → Option ℕ → Outcome Extent
validate_dictionary s start count padded = do
  entries ← read_uvarint s start
  _ ← check (leb entries.value (length s - entries.next)) 17 entries.next
  codes ← validate_uvarints s entries.next entries.value (first_padded padded start entries.unpadded)
  w ← width_at s codes.end
  end ← packed_end s (codes.end + 1) w count
  _ ← check (all_below entries.value (packed_values s (codes.end + 1) w count)) 18 codes.end
  ok (record { end = end; padded = codes.padded })

-- the entries after `last`, by their gaps: "every sum on reading wraps"
unfoldable pub entries_from : ℤ → List ℕ → List ℤ
entries_from last [] = []
entries_from last (g ∷ gs) = wrapping_add last (pos g) ∷ entries_from (wrapping_add last (pos g)) gs

-- the entries, by the values of their varints
unfoldable pub entries_of : List ℕ → List ℤ
entries_of [] = []
entries_of (first ∷ gaps) = unzigzag first ∷ entries_from (unzigzag first) gaps

-- the values of a body that was read: the entry of each code
unfoldable pub dictionary_values : List ℕ → ℕ → ℕ → List ℤ
dictionary_values s start count =
    let total = uvarint_at s start in
    let entries = entries_of (uvarint_values s total.next total.value) in
    let at = after_uvarints s total.next total.value in
    map (λ code. get_or entries code (pos 0)) (packed_values s (at + 1) (get_or s at 0) count)
