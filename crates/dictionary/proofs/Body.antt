-- A Dictionary body, part by part: how long it is, and that the total, the entries, the width byte and the codes, stored one after the other, are the body.
use mathlib.Core.Path.{refl, ◌≡◌, sym, ap, ◌∙◌}
use mathlib.Core.List.{List, ◌∷◌, ◌++◌, map}
use Prim.Native.Nat.{ℕ, ◌+◌, ◌≤◌, ◌<◌}
use native.Mathlib.Omega.{arith}
use lib.IntN.{ℤ}
use lib.ListN.{length, set, length-append, length-map}
use lib.Seq.{sets}
use Rattle.format.specs.Packing.{packed_len, packed}
use Rattle.format.specs.Dictionary.{entry_bytes, code_of, code_width, dictionary_body_with}
use Rattle.std.specs.Prelude.{Option, Some, IsSome}
use Rattle.format.proofs.Lengths.Parts.{length-entry_bytes}
use Rattle.format.proofs.Numbers.Uvarints.{length-uvarint_bytes}
use Rattle.format.proofs.Numbers.Packing.{length-packed}
use Rattle.format.proofs.Numbers.Stores.{Storing, storing-none, storing-part, storing-one, storing-room}
use Rattle.places.proofs.Placing.{PutUvarint, storing_uvarint, storing_uvarint_some}
use Rattle.entries.specs.Measured.{body_len}

module _ (entries column : List ℤ) where
  abbrev total : ℕ
  total = length entries

  -- the codes, packed at a width
  abbrev codes : ℕ → List ℕ
  codes w = packed w (map (code_of entries) column)

  length-codes : (w : ℕ) → length (codes w) ≡ packed_len (length column) w
  length-codes w = length-packed w (map (code_of entries) column) ∙ ap (λ (n : ℕ). packed_len n w) (length-map column (code_of entries))

  pub body-length : length (dictionary_body_with entries column) ≡ body_len entries (length column)
  unfolding dictionary_body_with body_len
  body-length = simp (length-append, length-uvarint_bytes, length-entry_bytes, length-codes) (omega arith)

  module _ (output : List ℕ) (start : ℕ) (room : start + body_len entries (length column) ≤ length output) where
    abbrev whole : List ℕ
    whole = dictionary_body_with entries column

    -- after the entries
    abbrev tail : List ℕ
    tail = code_width total ∷ codes (code_width total)

    enough : start + length whole ≤ length output
    enough = omega (arith, body-length, room)

    -- the total
    module _ {begun : List ℕ} {end : Option ℕ} (put : PutUvarint total output start begun end) where
      pub total-there : IsSome end
      unfolding dictionary_body_with
      total-there = storing_uvarint_some storing-none enough total (entry_bytes entries ++ tail) refl put

      module _ {first : ℕ} (found : end ≡ Some first) where
        total-stored : Storing whole output start (entry_bytes entries ++ tail) begun first
        unfolding dictionary_body_with
        total-stored = storing_uvarint storing-none enough total (entry_bytes entries ++ tail) refl put found

        pub entries-room : first + length (entry_bytes entries) ≤ length begun
        entries-room = omega (arith, storing-room total-stored enough, length-append (entry_bytes entries) tail)

        -- the entries
        module _ {at : ℕ} {more : List ℕ} (e : (at ≡ first + length (entry_bytes entries)) × (more ≡ sets begun first (entry_bytes entries))) where
          entries-stored : Storing whole output start tail more at
          entries-stored = rw (e.0, e.1) (storing-part total-stored (entry_bytes entries) tail refl)

          pub width_room : at < length more
          width_room = omega (arith, storing-room entries-stored enough)

          -- the width byte and the codes
          module _ {w : ℕ} (width : w ≡ code_width total) where
            width-stored : Storing whole output start (codes w) (set more at w) (at + 1)
            width-stored = storing-one entries-stored w (codes w) (ap (λ (v : ℕ). v ∷ codes v) (sym width))

            pub codes-room : at + 1 + packed_len (length column) w ≤ length (set more at w)
            codes-room = omega (arith, storing-room width-stored enough, length-codes w)

            pub body-stored : {out : List ℕ} → out ≡ sets (set more at w) (at + 1) (codes w) → out ≡ sets output start whole
            body-stored done = done ∙ width-stored.same
