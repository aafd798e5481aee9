-- Dictionary: what was written is read back. The entries are varints in a row, at least a byte each, so question 17 passes; every value of the column has a code
-- below the number of entries, so the codes fit their width and question 18 passes; and the entry of a value's code is the value.
use mathlib.Core.Path.{◌≡◌, refl, sym, ap, ap₂, ◌∙◌}
use mathlib.Core.Bool.{true}
use Prim.Native.Nat.{ℕ, suc, ◌+◌, ◌-◌, ◌^◌, ◌≤◌}
use native.Mathlib.Nat.{lt_of_le_of_lt}
use native.Mathlib.Omega.{arith}
use mathlib.Core.List.{List, [], ◌∷◌, ◌++◌, map, map-map}
use lib.IntN.{ℤ, pos}
use lib.ListN.{length, get_or, length-append, length-map}
use borrow.Author.Tests.{lt-ltb, le-leb}
use Rattle.format.specs.Outcome.{ok}
use Rattle.format.specs.Keys.{Key, gap, zigzag}
use Rattle.format.specs.Varint.{Uvarint, uvarint_bytes, varint_bytes, validate_uvarints, uvarint_values, after_uvarints}
use Rattle.format.specs.Packing.{packed_len, packed, packed_end, packed_values}
use Rattle.format.specs.Encodings.{max_chunk_elements}
use Rattle.format.specs.Dictionary.{gap_bytes, entry_bytes, code_of, code_width, dictionary_body_with, dictionary_body, all_below, validate_dictionary, entries_from, entries_of, dictionary_values}
use Rattle.format.proofs.Numbers.All.{All, all_none, all_more, all-imp, all_map, map-id, Below}
use Rattle.format.proofs.Numbers.Packing.{length-packed}
use Rattle.format.proofs.Numbers.Widths.{width-lt, width-le}
use Rattle.format.proofs.Numbers.Keys.{gap-lt, wrapping_add-gap, zigzag-lt, unzigzag-zigzag}
use Rattle.format.proofs.Numbers.Distinct.{length-distinct, distinct-keys}
use Rattle.format.proofs.Numbers.Occurs.{Occurs, occurs-first, occurs-next, occurs-tail, occurs-byte, occurs-room, occurs-as}
use Rattle.format.proofs.Numbers.Uvarints.{read_uvarint-back, uvarint_at-back}
use Rattle.format.proofs.Numbers.UvarintRows.{uvarints_bytes, uvarints_bytes-room, first_padded-unpadded, validate_uvarints-back, uvarint_values-back, after_uvarints-back}
use Rattle.format.proofs.Codecs.Packed.{width_read, packed-end, packed-back}
use Rattle.format.proofs.Codecs.Codes.{Ranked, code_of-lt, code_of-is, distinct-ranked}
use Rattle.std.specs.Prelude.{Option}

-- ---- entries as numbers

-- the gaps of the entries after `last`
unfoldable gaps_of : ℤ → List ℤ → List ℕ
gaps_of last [] = []
gaps_of last (e ∷ es) = gap last e ∷ gaps_of e es

-- the numbers of the entries: the first one's ZigZag, then gaps
unfoldable entry_numbers : List ℤ → List ℕ
entry_numbers [] = []
entry_numbers (e ∷ es) = zigzag e ∷ gaps_of e es

-- the bytes of the entries are their varints in a row
gap_bytes-is : (last : ℤ) (es : List ℤ) → gap_bytes last es ≡ uvarints_bytes (gaps_of last es)
unfolding gap_bytes uvarints_bytes gaps_of
gap_bytes-is last [] = refl
gap_bytes-is last (e ∷ es) = ap (λ (l : List ℕ). uvarint_bytes (gap last e) ++ l) (gap_bytes-is e es)

entry_bytes-is : (es : List ℤ) → entry_bytes es ≡ uvarints_bytes (entry_numbers es)
unfolding entry_bytes uvarints_bytes entry_numbers varint_bytes
entry_bytes-is [] = refl
entry_bytes-is (e ∷ es) = ap (λ (l : List ℕ). uvarint_bytes (zigzag e) ++ l) (gap_bytes-is e es)

-- there is one for each entry
length-gaps_of : (last : ℤ) (es : List ℤ) → length (gaps_of last es) ≡ length es
unfolding gaps_of
length-gaps_of last [] = refl
length-gaps_of last (e ∷ es) = ap suc (length-gaps_of e es)

length-entry_numbers : (es : List ℤ) → length (entry_numbers es) ≡ length es
unfolding entry_numbers
length-entry_numbers [] = refl
length-entry_numbers (e ∷ es) = ap suc (length-gaps_of e es)

-- they are below 2^64
below-gaps_of : (last : ℤ) (es : List ℤ) → Below (2 ^ 64) (gaps_of last es)
unfolding gaps_of
below-gaps_of last [] = all_none
below-gaps_of last (e ∷ es) = all_more (gap-lt last e) (below-gaps_of e es)

below-entry_numbers : {es : List ℤ} → All Key es → Below (2 ^ 64) (entry_numbers es)
unfolding entry_numbers
below-entry_numbers all_none = all_none
below-entry_numbers (all_more {x} {xs} k r) = all_more (zigzag-lt x k) (below-gaps_of x xs)

-- and give the entries back
entries_from-gaps : (last : ℤ) {es : List ℤ} → All Key es → entries_from last (gaps_of last es) ≡ es
unfolding entries_from gaps_of
entries_from-gaps last all_none = refl
entries_from-gaps last (all_more {x} {xs} k r) = rw (wrapping_add-gap last x k) (ap (λ (l : List ℤ). x ∷ l) (entries_from-gaps x r))

entries_of-numbers : {es : List ℤ} → All Key es → entries_of (entry_numbers es) ≡ es
unfolding entries_of entry_numbers
entries_of-numbers all_none = refl
entries_of-numbers (all_more {x} {xs} k r) = rw (unzigzag-zigzag x) (ap (λ (l : List ℤ). x ∷ l) (entries_from-gaps x r))

-- ---- codes

-- codes that are below pass question 18
all_below-yes : {n : ℕ} {cs : List ℕ} → Below n cs → all_below n cs ≡ true
unfolding all_below
all_below-yes all_none = refl
all_below-yes {n} (all_more {x} h r) = rw (lt-ltb x n h) (all_below-yes r)

module _ {entries column : List ℤ} (rs : All (λ v. Ranked v entries) column) where
  -- each code is below the entries,
  codes-below : Below (length entries) (map (code_of entries) column)
  codes-below = all_map (code_of entries) (all-imp (λ v r. code_of-lt r) rs)

  -- fits the code width,
  codes-fit : length entries ≤ max_chunk_elements → Below (2 ^ code_width (length entries)) (map (code_of entries) column)
  unfolding code_width
  codes-fit n =
      all_map (code_of entries) (all-imp (λ v r. lt_of_le_of_lt (omega (arith, code_of-lt r)) (width-lt (length entries - 1) (omega arith))) rs)

  -- and is that of its value
  codes-back : map (λ code. get_or entries code (pos 0)) (map (code_of entries) column) ≡ column
  codes-back = map-map (λ code. get_or entries code (pos 0)) (code_of entries) column ∙ map-id (all-imp (λ v r. code_of-is r) rs)

-- ---- the body's parts, for any entries

-- the codes' width byte and the codes
unfoldable code_bytes : List ℤ → List ℤ → List ℕ
code_bytes entries column = code_width (length entries) ∷ packed (code_width (length entries)) (map (code_of entries) column)

-- how many bytes those are
length-code_bytes : (entries column : List ℤ) → length (code_bytes entries column) ≡ 1 + packed_len (length column) (code_width (length entries))
unfolding code_bytes
length-code_bytes entries column =
    omega (
      arith,
      length-packed (code_width (length entries)) (map (code_of entries) column),
      ap (λ (n : ℕ). packed_len n (code_width (length entries))) (length-map column (code_of entries)),
    )

-- the body is a varint, varints in a row, and the codes
body-parts :
    (entries column : List ℤ) → dictionary_body_with entries column ≡ uvarint_bytes (length entries) ++ (uvarints_bytes (entry_numbers entries) ++ code_bytes entries column)
unfolding dictionary_body_with code_bytes
body-parts entries column = rw (entry_bytes-is entries)

-- where, in a body at `at`, the entries begin, and where the width byte stands
abbrev entries_at : ℕ → List ℤ → ℕ
entries_at at entries = at + length (uvarint_bytes (length entries))

abbrev width_byte_at : ℕ → List ℤ → ℕ
width_byte_at at entries = entries_at at entries + length (uvarints_bytes (entry_numbers entries))

module _ {s : List ℕ} {at : ℕ} (entries column : List ℤ) (o : Occurs s at (dictionary_body_with entries column)) where
  -- where its parts occur
  part-total : Occurs s at (uvarint_bytes (length entries))
  part-total = occurs-first (uvarint_bytes (length entries)) (uvarints_bytes (entry_numbers entries) ++ code_bytes entries column) (occurs-as (body-parts entries column) o)

  part-rest : Occurs s (entries_at at entries) (uvarints_bytes (entry_numbers entries) ++ code_bytes entries column)
  part-rest = occurs-next (uvarint_bytes (length entries)) (uvarints_bytes (entry_numbers entries) ++ code_bytes entries column) (occurs-as (body-parts entries column) o)

  part-entries : Occurs s (entries_at at entries) (uvarints_bytes (entry_numbers entries))
  part-entries = occurs-first (uvarints_bytes (entry_numbers entries)) (code_bytes entries column) part-rest

  part-codes : Occurs s (width_byte_at at entries) (code_width (length entries) ∷ packed (code_width (length entries)) (map (code_of entries) column))
  unfolding code_bytes
  part-codes = occurs-next (uvarints_bytes (entry_numbers entries)) (code_bytes entries column) part-rest

  -- the place after it
  part_end : width_byte_at at entries + 1 + packed_len (length column) (code_width (length entries)) ≡ at + length (dictionary_body_with entries column)
  part_end =
      omega (
        arith,
        ap length (body-parts entries column),
        length-append (uvarint_bytes (length entries)) (uvarints_bytes (entry_numbers entries) ++ code_bytes entries column),
        length-append (uvarints_bytes (entry_numbers entries)) (code_bytes entries column),
        length-code_bytes entries column,
      )

  -- a byte at least for each entry
  part_room : length entries ≤ length s - entries_at at entries
  part_room = omega (arith, occurs-room part-entries, uvarints_bytes-room (entry_numbers entries), length-entry_numbers entries)

-- ---- the body, for any entries among which the column's values are ranked

-- a code width is at most 64
code_width-le : (entries : ℕ) → code_width entries ≤ 64
unfolding code_width
code_width-le entries = width-le (entries - 1)

module _ {s : List ℕ} {at : ℕ} {entries column : List ℤ} (ks : All Key entries) (rs : All (λ v. Ranked v entries) column)
    (few : length entries ≤ max_chunk_elements) (o : Occurs s at (dictionary_body_with entries column)) where
  -- the codes, read
  codes-read : packed_values s (width_byte_at at entries + 1) (code_width (length entries)) (length column) ≡ map (code_of entries) column
  codes-read =
      rw (length-map column (code_of entries))
      at (packed-back (code_width (length entries)) (map (code_of entries) column) (codes-fit rs few) (occurs-tail (part-codes entries column o)))

  -- the end,
  validate-with :
      (padded : Option ℕ) → validate_dictionary s at (length column) padded ≡ ok (record { end = at + length (dictionary_body_with entries column); padded = padded })
  unfolding validate_dictionary
  validate-with padded =
      let n : ℕ = length entries in
      let w : ℕ = code_width n in
      let p : ℕ = entries_at at entries in
      let q : ℕ = width_byte_at at entries in
      let codes : Occurs s q (w ∷ packed w (map (code_of entries) column)) = part-codes entries column o in
      let entries-pass : validate_uvarints s p n padded ≡ ok (record { end = q; padded = padded }) =
      ap (λ (m : ℕ). validate_uvarints s p m padded) (sym (length-entry_numbers entries)) ∙ validate_uvarints-back padded (below-entry_numbers ks) (part-entries entries column o) in
      let codes-end : packed_end s (q + 1) w (length column) ≡ ok (q + 1 + packed_len (length column) w) =
      rw (length-map column (code_of entries)) at (packed-end w (map (code_of entries) column) (code_width-le n) (occurs-tail codes)) in
      rw (
        read_uvarint-back n (omega arith) (part-total entries column o),
        le-leb n (length s - p) (part_room entries column o),
        first_padded-unpadded padded at,
        entries-pass,
        width_read codes,
        codes-end,
        codes-read,
        all_below-yes (codes-below rs),
        part_end entries column o,
      )

  -- and the values
  values-with : dictionary_values s at (length column) ≡ column
  unfolding dictionary_values
  values-with =
      let n : ℕ = length entries in
      let p : ℕ = entries_at at entries in
      let numbers : uvarint_values s p n ≡ entry_numbers entries =
      ap (uvarint_values s p) (sym (length-entry_numbers entries)) ∙ uvarint_values-back (below-entry_numbers ks) (part-entries entries column o) in
      let after : after_uvarints s p n ≡ width_byte_at at entries =
      ap (after_uvarints s p) (sym (length-entry_numbers entries)) ∙ after_uvarints-back (below-entry_numbers ks) (part-entries entries column o) in
      ap
      (λ (total : Uvarint).
      map (λ code. get_or (entries_of (uvarint_values s total.next total.value)) code (pos 0))
      (packed_values s (after_uvarints s total.next total.value + 1) (get_or s (after_uvarints s total.next total.value) 0) (length column)))
      (uvarint_at-back n (omega arith) (part-total entries column o))
      ∙ ap₂ (λ (ns : List ℕ) (a : ℕ). map (λ code. get_or (entries_of ns) code (pos 0)) (packed_values s (a + 1) (get_or s a 0) (length column))) numbers after
      ∙ rw (occurs-byte (part-codes entries column o), codes-read, entries_of-numbers ks) (codes-back rs)

module _ {s : List ℕ} {at : ℕ} {column : List ℤ} (ks : All Key column) (few : length column ≤ max_chunk_elements) (o : Occurs s at (dictionary_body column)) where
  -- Dictionary: the end of a body that occurs at a place,
  pub dictionary-validate :
      (padded : Option ℕ) → validate_dictionary s at (length column) padded ≡ ok (record { end = at + length (dictionary_body column); padded = padded })
  unfolding dictionary_body
  dictionary-validate padded = validate-with (distinct-keys ks) (distinct-ranked column) (omega (arith, length-distinct column)) o padded

  -- and its values
  pub dictionary-back : dictionary_values s at (length column) ≡ column
  unfolding dictionary_body
  dictionary-back = values-with (distinct-keys ks) (distinct-ranked column) (omega (arith, length-distinct column)) o
