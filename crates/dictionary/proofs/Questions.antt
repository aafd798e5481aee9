-- The questions of a Dictionary body in their order: the total, the entries, the width byte and the packed codes, the codes. And what a body that was passed has.
use mathlib.Core.Path.{◌≡◌, refl, sym, ap, ◌∙◌}
use mathlib.Core.Bool.{Bool, true, false}
use mathlib.Core.List.{List}
use Prim.Native.Nat.{ℕ, zero, suc, ◌+◌, ◌-◌, ◌≤◌}
use native.Mathlib.Omega.{arith}
use lib.Dec.{leb, ltb}
use lib.ListN.{length, get_or}
use borrow.Author.Tests.{le-leb, leb-true}
use Rattle.format.specs.Outcome.{Outcome, refused, ok, check, ◌>>=◌}
use Rattle.format.specs.declared.Extent.{Extent}
use Rattle.format.specs.Varint.{Uvarint, read_uvarint, uvarint_at, first_padded, validate_uvarints, after_uvarints}
use Rattle.format.specs.Packing.{width_at, packed_end, packed_values}
use Rattle.format.specs.Encodings.{max_chunk_elements}
use Rattle.format.specs.Dictionary.{all_below, validate_dictionary}
use Rattle.format.specs.Parts.{packed_extent}
use Rattle.format.proofs.Codecs.Counts.{uvarint-again}
use Rattle.format.proofs.Codecs.Outcome.{both-passed, check-passed}
use Rattle.places.specs.Packed.{Inside}
use Rattle.codec.proofs.Settling.{passed-inside}
use Rattle.dictionary.specs.Reading.{settled_codes, AllRead, ReadBody}
use Rattle.std.specs.Prelude.{Option}

-- ---- the codes

module _ (s : List ℕ) (place count : ℕ) (padded : Option ℕ) where
  -- the questions of the codes are those of a packed body and then 18; asked one by one, of few enough values, they are the same
  codes_are : (entries : ℕ) → count ≤ max_chunk_elements
      → (width_at s place >>= λ w. packed_end s (place + 1) w count >>= λ end. check (all_below entries (packed_values s (place + 1) w count)) 18 place >>= λ _. ok (record { end = end; padded = padded }))
      ≡ settled_codes s place count entries padded
  unfolding settled_codes packed_extent width_at
  codes_are entries few = rw (le-leb count max_chunk_elements few) (width (ltb place (length s)))
    where
      asked : ℕ → Outcome (Unit {0})
      asked v = check (all_below entries (packed_values s (place + 1) v count)) 18 place

      found : ℕ → Outcome Extent
      found end = ok (record { end = end; padded = padded })

      after : (v : ℕ) (o : Outcome ℕ) → (o >>= λ end. asked v >>= λ _. found end) ≡ ((o >>= found) >>= λ x. asked v >>= λ _. ok x)
      after v (refused number offset) = refl
      after v (ok end) = refl

      width : (a : Bool)
          → ((check a 10 place >>= λ _. ok (get_or s place 0)) >>= λ v. packed_end s (place + 1) v count >>= λ end. asked v >>= λ _. found end)
          ≡ (((check a 10 place >>= λ _. ok (get_or s place 0)) >>= λ v. packed_end s (place + 1) v count >>= found) >>= λ x. asked (get_or s place 0) >>= λ _. ok x)
      width true = after (get_or s place 0) (packed_end s (place + 1) (get_or s place 0) count)
      width false = refl

  -- a packed body that was passed is there
  pub codes_there : {x : Extent} → ok x ≡ packed_extent s place count padded → Inside s place count
  unfolding packed_extent
  codes_there h =
      both-passed (check (leb count max_chunk_elements) 21 0) _ (sym h) λ _ few h₁.
      both-passed (width_at s place) _ h₁ λ w width h₂.
      both-passed (packed_end s (place + 1) w count) _ h₂ λ end ends h₃.
      passed-inside (leb-true _ _ (check-passed _ 21 0 few)) width ends

-- ---- the whole body

-- once the total and the entries' varints are read, the codes decide
module _ (s : List ℕ) (start count : ℕ) (padded : Option ℕ) {total : Uvarint} {gaps : Extent} where
  pub codes_last : count ≤ max_chunk_elements → ok total ≡ read_uvarint s start → total.value ≤ length s - total.next
      → ok gaps ≡ validate_uvarints s total.next total.value (first_padded padded start total.unpadded)
      → settled_codes s gaps.end count total.value gaps.padded ≡ validate_dictionary s start count padded
  unfolding validate_dictionary
  codes_last few read enough found =
      rw (← read, le-leb total.value (length s - total.next) enough, ← found) (sym (codes_are s gaps.end count gaps.padded total.value few))

-- ---- a body that was passed

width_is : (s : List ℕ) (place : ℕ) {w : ℕ} → width_at s place ≡ ok w → get_or s place 0 ≡ w
unfolding width_at
width_is s place h = both-passed (check (ltb place (length s)) 10 place) _ h λ _ _ h₁. cc

-- varints that were passed end where they are walked to
pub after-passed : (s : List ℕ) (at n : ℕ) (padded : Option ℕ) {x : Extent} → validate_uvarints s at n padded ≡ ok x → x.end ≡ after_uvarints s at n
unfolding validate_uvarints after_uvarints
after-passed s at zero padded {x} h = let same : ◌≡◌ {A = Extent} (record { end = at; padded = padded }) x = cc in ap (λ (y : Extent). y.end) (sym same)
after-passed s at (suc n) padded h =
    both-passed (read_uvarint s at) _ h λ v found h₁.
    after-passed s v.next n _ h₁ ∙ ap (λ (r : Uvarint). after_uvarints s r.next n) (sym (uvarint-again s at found))

-- and none of them is refused
read-passed : (s : List ℕ) (at n : ℕ) (padded : Option ℕ) {x : Extent} → validate_uvarints s at n padded ≡ ok x → AllRead s at n
unfolding validate_uvarints AllRead
read-passed s at zero padded h = tt
read-passed s at (suc n) padded h =
    both-passed (read_uvarint s at) _ h λ v found h₁.
    (rw found refl, rw (uvarint-again s at found) (read-passed s v.next n _ h₁))

pub body-passed : (s : List ℕ) (start count : ℕ) (padded : Option ℕ) {x : Extent} → count ≤ max_chunk_elements → validate_dictionary s start count padded ≡ ok x
    → ReadBody s start count
unfolding validate_dictionary
body-passed s start count padded few h =
    both-passed (read_uvarint s start) _ h λ total read h₁.
    both-passed (check (leb total.value (length s - total.next)) 17 total.next) _ h₁ λ _ enough h₂.
    both-passed (validate_uvarints s total.next total.value (first_padded padded start total.unpadded)) _ h₂ λ codes found h₃.
    both-passed (width_at s codes.end) _ h₃ λ w width h₄.
    both-passed (packed_end s (codes.end + 1) w count) _ h₄ λ end ends h₅.
    both-passed (check (all_below total.value (packed_values s (codes.end + 1) w count)) 18 codes.end) _ h₅ λ _ below h₆.
    let at : uvarint_at s start ≡ total = uvarint-again s start read in
    let place : after_uvarints s total.next total.value ≡ codes.end = sym (after-passed s total.next total.value _ found) in
    let same : get_or s codes.end 0 ≡ w = width_is s codes.end width in
    record {
      total = rw read refl;
      read = rw at (read-passed s total.next total.value _ found);
      entries = rw at (omega (arith, leb-true total.value (length s - total.next) (check-passed _ 17 _ enough)));
      codes = rw (at, place) (passed-inside few width ends);
      below = rw (at, place, same) (check-passed _ 18 _ below);
    }
