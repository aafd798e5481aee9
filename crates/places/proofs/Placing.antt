-- Storing at a place: what a call left in the part of the output from a place on, seen from the whole (`placed`); and where there is room, the bytes stand there
-- and the place after them is found (`uvarint_put`, `bytes_put`, `packed_put`, `put_some`), which is what a codec has from the calls of `places`; so a codec that
-- stores part by part goes on after them (`storing_uvarint`, `storing_packed`).
use mathlib.Core.Path.{◌≡◌, refl, sym, ap, ◌∙◌}
use mathlib.Core.Bool.{Bool, true, false}
use mathlib.Core.List.{List, [], ◌∷◌, ◌++◌, append_assoc}
use Prim.Native.Nat.{ℕ, suc, ◌+◌, ◌-◌, ◌/◌, ◌%◌, ◌<◌, ◌≤◌, min}
use native.Mathlib.Decide.{dec_le}
use native.Mathlib.Numerals.{add-one}
use native.Mathlib.Omega.{arith}
use lib.IntN.{ℤ}
use lib.Dec.{leb}
use lib.ListN.{length, set, take, drop, take-append-drop, length-append, length-drop, length-set}
use lib.Seq.{sets, length-sets, sets-eq, drop-drop}
use borrow.Rule.Slice.PartMut.{put_mid}
use borrow.Author.Tests.{le-leb, lt-leb, leb-true}
use Rattle.std.specs.Prelude.{Option, None, Some, Result, Ok, Err}
use Rattle.std.specs.Option.{IsSome}
use Rattle.std.specs.Result.{result_ok}
use Rattle.std.proofs.lemmas.Option.{none-some, same_Some}
use Rattle.format.specs.Outcome.{Outcome, refused, ok, check, ◌>>=◌}
use Rattle.format.specs.Answers.{outcome_of, stored, stored_answer, buffer_after}
use Rattle.format.specs.declared.refusals.Refusal.{Refusal}
use Rattle.format.specs.Digits.{digits}
use Rattle.format.specs.Keys.{residue, key_bytes}
use Rattle.format.specs.Varint.{uvarint_len, uvarint_bytes}
use Rattle.format.specs.Packing.{packed_len, packed}
use Rattle.format.specs.Encodings.{max_chunk_elements}
use Rattle.format.specs.Header.{header_bytes, header_len}
use Rattle.format.specs.Standalone.{uvarint_write_outcome, pack_outcome}
use Rattle.format.proofs.Numbers.Keys.{length-key_bytes}
use Rattle.format.proofs.Numbers.Uvarints.{length-uvarint_bytes}
use Rattle.format.proofs.Numbers.Widths.{uvarint_len-pos}
use Rattle.format.proofs.Numbers.Packing.{length-packed}
use Rattle.format.proofs.Numbers.Stores.{Storing, storing-part, storing-room}
use Rattle.format.proofs.Codecs.Header.{length-header_bytes}
use Rattle.varint.proofs.Bytes.{uvarint_len_one, uvarint_len-more, uvarint_bytes-one, uvarint_bytes-more}
use Rattle.bitpack.proofs.Parts.{part-rest, part-back}
use Rattle.places.specs.Places.{fitting, laid, laid_place}

bytes_of : (value : ℤ) → digits 256 8 (residue value) ≡ key_bytes value
unfolding key_bytes
bytes_of value = refl

-- ---- a part of the output, and the whole

-- no more bytes than there is space for
abbrev pub Fitting : Outcome (List ℕ) → ℕ → Type 0
Fitting o space = (bytes : List ℕ) → o ≡ ok bytes → length bytes ≤ space

module _ (at : ℕ) (output : List ℕ) where
  placed : (o : Outcome (List ℕ)) → at ≤ length output → Fitting o (length output - at) → take at output ++ buffer_after o (drop at output) ≡ laid o at output
  unfolding stored
  placed (refused number offset) h f = take-append-drop at output
  placed (ok bytes) h f =
      let room : at + length bytes ≤ length output = omega (arith, f bytes refl) in
      sym (append_assoc (take at output) bytes (drop (length bytes) (drop at output)))
      ∙ ap (λ (l : List ℕ). (take at output ++ bytes) ++ l) (drop-drop (length bytes) at output)
      ∙ sym (sets-eq bytes output at room)

-- what is lent to a call: the part from the place on, or from the end where the place is past it
module _ (at : ℕ) (output : List ℕ) {front : ℕ} (e : front ≡ min at (length output)) where
  pub space_is : length (take (length output - front) (drop front output)) ≡ length output - at
  space_is = omega (arith, ap length (part-rest front output), length-drop front output)

  -- as the borrow checker states the whole after the call
  pub placed_whole : (o : Outcome (List ℕ)) {back : List ℕ} → Fitting o (length output - at) → back ≡ buffer_after o (take (length output - front) (drop front output))
      → put_mid front (length output - front) output back ≡ laid o at output
  unfolding stored
  placed_whole o {back} fits b =
      part-back front output back (omega arith)
      ∙ ap (λ (l : List ℕ). take front output ++ l) (b ∙ ap (buffer_after o) (part-rest front output))
      ∙ go (dec_le at (length output)) o fits
    where
      none : take front output ++ stored [] (drop front output) ≡ output
      none = take-append-drop front output

      go : Dec (at ≤ length output) → (o : Outcome (List ℕ)) → Fitting o (length output - at) → take front output ++ buffer_after o (drop front output) ≡ laid o at output
      go (yes h) o fits = let same : front ≡ at = omega arith in rw same (placed at output o h fits)
      go (no h) (refused number offset) fits = take-append-drop front output
      go (no h) (ok []) fits = none
      go (no h) (ok (b ∷ bytes)) fits = absurd (omega (arith, fits (b ∷ bytes) refl))

-- the place after it, by the answer of the call
module _ (o : Outcome (List ℕ)) (at : ℕ) (r : Result ℕ Refusal) (told : outcome_of r ≡ stored_answer o) where
  pub end_none : None ≡ result_ok r → None ≡ laid_place o at
  end_none e = go r o told e
    where
      go : (r : Result ℕ Refusal) (o : Outcome (List ℕ)) → outcome_of r ≡ stored_answer o → None ≡ result_ok r → None ≡ laid_place o at
      go (Ok n) o t f = absurd (none-some _ f)
      go (Err refusal) (refused number offset) t f = refl
      go (Err refusal) (ok bytes) t f = let z : ◌≡◌ {A = ℕ} 0 1 = cc in absurd (omega arith)

  -- with no more bytes than there is space for
  pub end_some : {space n : ℕ} → Fitting o space → Some n ≡ result_ok r → (n ≤ space) × (Some (at + n) ≡ laid_place o at)
  end_some {space} {n} fits e = go r o told fits e
    where
      go : (r : Result ℕ Refusal) (o : Outcome (List ℕ)) → outcome_of r ≡ stored_answer o → Fitting o space → Some n ≡ result_ok r → (n ≤ space) × (Some (at + n) ≡ laid_place o at)
      go (Ok m) (refused number offset) t f g = let z : ◌≡◌ {A = ℕ} 0 1 = cc in absurd (omega arith)
      go (Ok m) (ok bytes) t f g = let same : n ≡ length bytes = cc in (omega (arith, f bytes refl, same), ap (λ (k : ℕ). Some (at + k)) same)
      go (Err refusal) o t f g = absurd (none-some _ (sym g))

-- ---- each call's bytes fit

module _ (bytes : List ℕ) (needed : ℕ) (same : length bytes ≡ needed) where
  fits-check : (space : ℕ) → Fitting (check (leb needed space) 20 needed >>= λ _. ok bytes) space
  fits-check space found e = go (leb needed space) refl e
    where
      go : (t : Bool) → leb needed space ≡ t → (check t 20 needed >>= λ _. ok bytes) ≡ ok found → length found ≤ space
      go true p h = let q : bytes ≡ found = cc in omega (arith, leb-true needed space p, same, ap length q)
      go false p h = let z : ◌≡◌ {A = ℕ} 0 1 = cc in absurd (omega arith)

pub uvarint-fits : (x space : ℕ) → Fitting (uvarint_write_outcome x space) space
unfolding uvarint_write_outcome
uvarint-fits x space = fits-check (uvarint_bytes x) (uvarint_len x) (length-uvarint_bytes x) space

pub packed-fits : (values : List ℕ) (w space : ℕ) → Fitting (pack_outcome values w space) space
unfolding pack_outcome
packed-fits values w space = go (leb (length values) max_chunk_elements) (leb w 64)
  where
    go : (few narrow : Bool)
        → Fitting (check few 21 0 >>= λ _. check narrow 12 0 >>= λ _. check (leb (packed_len (length values) w) space) 20 (packed_len (length values) w) >>= λ _. ok (packed w values)) space
    go false narrow = λ bytes e. let z : ◌≡◌ {A = ℕ} 0 1 = cc in absurd (omega arith)
    go true false = λ bytes e. let z : ◌≡◌ {A = ℕ} 0 1 = cc in absurd (omega arith)
    go true true = fits-check (packed w values) (packed_len (length values) w) (length-packed w values) space

-- ---- where there is room

-- what a call that stores a varint at a place says of the output and of the place after it
abbrev pub PutUvarint : ℕ → List ℕ → ℕ → List ℕ → Option ℕ → Type 0
PutUvarint x output at out end = (end ≡ laid_place (uvarint_write_outcome x (length output - at)) at) × (out ≡ laid (uvarint_write_outcome x (length output - at)) at output)

-- what was stored is there, and so is the place after it
abbrev pub Put : List ℕ → List ℕ → ℕ → List ℕ → Option ℕ → Type 0
Put bytes output at out end = (end ≡ Some (at + length bytes)) × (out ≡ sets output at bytes)

module _ (at : ℕ) (output : List ℕ) where
  pub uvarint_laid : (x : ℕ) → at + length (uvarint_bytes x) ≤ length output → uvarint_write_outcome x (length output - at) ≡ ok (uvarint_bytes x)
  unfolding uvarint_write_outcome
  uvarint_laid x h = rw (le-leb (uvarint_len x) (length output - at) (omega (arith, length-uvarint_bytes x)))

  pub bytes_laid : (bytes : List ℕ) → at + length bytes ≤ length output → fitting bytes (length output - at) ≡ ok bytes
  unfolding fitting
  bytes_laid bytes h = rw (le-leb (length bytes) (length output - at) (omega arith))

  pub packed_laid : (values : List ℕ) (w : ℕ) → length values ≤ max_chunk_elements → w ≤ 64 → at + packed_len (length values) w ≤ length output
      → pack_outcome values w (length output - at) ≡ ok (packed w values)
  unfolding pack_outcome
  packed_laid values w few narrow h =
      rw (le-leb (length values) max_chunk_elements few, le-leb w 64 narrow, le-leb (packed_len (length values) w) (length output - at) (omega arith))

  module _ {out : List ℕ} {end : Option ℕ} where
    put_laid : (o : Outcome (List ℕ)) (bytes : List ℕ) → o ≡ ok bytes → (end ≡ laid_place o at) × (out ≡ laid o at output) → Put bytes output at out end
    put_laid o bytes there put = rw there at put

    pub uvarint_put : (x : ℕ) → at + length (uvarint_bytes x) ≤ length output → PutUvarint x output at out end → Put (uvarint_bytes x) output at out end
    uvarint_put x h put = put_laid (uvarint_write_outcome x (length output - at)) (uvarint_bytes x) (uvarint_laid x h) put

    pub bytes_put : (bytes : List ℕ) → at + length bytes ≤ length output
        → (end ≡ laid_place (fitting bytes (length output - at)) at) × (out ≡ laid (fitting bytes (length output - at)) at output) → Put bytes output at out end
    bytes_put bytes h put = put_laid (fitting bytes (length output - at)) bytes (bytes_laid bytes h) put

    pub packed_put : (values : List ℕ) (w : ℕ) → length values ≤ max_chunk_elements → w ≤ 64 → at + packed_len (length values) w ≤ length output
        → (end ≡ laid_place (pack_outcome values w (length output - at)) at) × (out ≡ laid (pack_outcome values w (length output - at)) at output)
        → Put (packed w values) output at out end
    packed_put values w few narrow h put = put_laid (pack_outcome values w (length output - at)) (packed w values) (packed_laid values w few narrow h) put

-- a call that found room has a place to go on from
pub put_some : (at : ℕ) (bytes : List ℕ) {end : Option ℕ} → end ≡ Some (at + length bytes) → IsSome end
put_some at bytes e = rw e refl

-- ---- where there is room for all, a call's bytes are stored, and the rest is to come after them

module _ {whole l : List ℕ} {from : ℕ} {rest out : List ℕ} {at : ℕ} (s : Storing whole l from rest out at) (room : from + length whole ≤ length l) where
  module _ (bytes later : List ℕ) (e : rest ≡ bytes ++ later) where
    pub storing_fits : at + length bytes ≤ length out
    storing_fits = omega (arith, storing-room s room, ap length e, length-append bytes later)

    pub storing_put : {next : List ℕ} {end : Option ℕ} {place : ℕ} → Put bytes out at next end → end ≡ Some place → Storing whole l from later next place
    storing_put {next} {end} {place} put found =
        let same : place ≡ at + length bytes = same_Some _ _ (sym found ∙ put.0) in
        rw (put.1, same) (storing-part s bytes later e)

  module _ (x : ℕ) (later : List ℕ) {next : List ℕ} {end : Option ℕ} (e : rest ≡ uvarint_bytes x ++ later) (put : PutUvarint x out at next end) where
    uvarint_there : Put (uvarint_bytes x) out at next end
    uvarint_there = uvarint_put at out x (storing_fits (uvarint_bytes x) later e) put

    pub storing_uvarint_some : IsSome end
    storing_uvarint_some = put_some at (uvarint_bytes x) uvarint_there.0

    pub storing_uvarint : {place : ℕ} → end ≡ Some place → Storing whole l from later next place
    storing_uvarint found = storing_put (uvarint_bytes x) later e uvarint_there found

  module _ (values : List ℕ) (w : ℕ) (later : List ℕ) {next : List ℕ} {end : Option ℕ} (e : rest ≡ packed w values ++ later) (few : length values ≤ max_chunk_elements) (narrow : w ≤ 64)
      (put : (end ≡ laid_place (pack_outcome values w (length out - at)) at) × (next ≡ laid (pack_outcome values w (length out - at)) at out))
    where
      packed_there : Put (packed w values) out at next end
      packed_there = packed_put at out values w few narrow (omega (arith, storing_fits (packed w values) later e, length-packed w values)) put

      pub storing_packed_some : IsSome end
      storing_packed_some = put_some at (packed w values) packed_there.0

      pub storing_packed : {place : ℕ} → end ≡ Some place → Storing whole l from later next place
      storing_packed found = storing_put (packed w values) later e packed_there found

-- ---- a varint of one or two bytes

-- past the end
pub uvarint_none : (x at : ℕ) (output : List ℕ) → length output ≤ at → PutUvarint x output at output None
unfolding uvarint_write_outcome
uvarint_none x at output past = rw (lt-leb (uvarint_len x) (length output - at) (omega (arith, uvarint_len-pos x))) (refl, refl)

module _ (x at : ℕ) (output : List ℕ) (inside : at < length output) where
  pub one-stored : x < 128 → (Some (at + 1) ≡ laid_place (uvarint_write_outcome x (length output - at)) at) × (set output at x ≡ laid (uvarint_write_outcome x (length output - at)) at output)
  one-stored h = rw (uvarint_laid at output x (omega (arith, length-uvarint_bytes x, uvarint_len_one x h)), uvarint_bytes-one x h) (refl, refl)

  module _ (more : 128 ≤ x) (two : x < 16384) where
    long : uvarint_len x ≡ 2
    long = uvarint_len-more x more (omega arith) ∙ ap suc (uvarint_len_one (x / 128) (omega arith))

    pub two-short : length output - at < 2 → (None ≡ laid_place (uvarint_write_outcome x (length output - at)) at) × (output ≡ laid (uvarint_write_outcome x (length output - at)) at output)
    unfolding uvarint_write_outcome
    two-short h = rw (lt-leb (uvarint_len x) (length output - at) (omega (arith, long))) (refl, refl)

    pub two-stored : 2 ≤ length output - at
        → (Some (at + 2) ≡ laid_place (uvarint_write_outcome x (length output - at)) at)
        × (set (set output at (x % 128 + 128)) (at + 1) (x / 128) ≡ laid (uvarint_write_outcome x (length output - at)) at output)
    two-stored h =
        let bytes : uvarint_bytes x ≡ (x % 128 + 128) ∷ (x / 128) ∷ []
        = uvarint_bytes-more x more (omega arith) ∙ ap (λ (r : List ℕ). (x % 128 + 128) ∷ r) (uvarint_bytes-one (x / 128) (omega arith)) in
        rw (uvarint_laid at output x (omega (arith, length-uvarint_bytes x, long)), bytes, add-one at) (refl, refl)

-- ---- a key

module _ (value : ℤ) (at : ℕ) (output : List ℕ) where
  pub key-short : length output - at < 8 → (None ≡ laid_place (fitting (key_bytes value) (length output - at)) at)
      × (output ≡ laid (fitting (key_bytes value) (length output - at)) at output)
  unfolding fitting
  key-short h = simp (lt-leb (length (key_bytes value)) (length output - at) (omega (arith, length-key_bytes value, h))) (refl, refl)

  pub key-stored : {out : List ℕ} → at ≤ length output → 8 ≤ length output - at → out ≡ sets output at (digits 256 8 (residue value))
      → (Some (at + 8) ≡ laid_place (fitting (key_bytes value) (length output - at)) at) × (out ≡ laid (fitting (key_bytes value) (length output - at)) at output)
  unfolding fitting
  key-stored inside room e =
      simp (le-leb (length (key_bytes value)) (length output - at) (omega (arith, length-key_bytes value, room)))
      (ap (λ (k : ℕ). Some (at + k)) (sym (length-key_bytes value)), e ∙ ap (sets output at) (bytes_of value))

-- ---- the header

module _ (id count : ℕ) (output : List ℕ) where
  pub header-short : length output < header_len count → (None ≡ laid_place (fitting (header_bytes id count) (length output)) 0)
      × (output ≡ laid (fitting (header_bytes id count) (length output)) 0 output)
  unfolding fitting
  header-short h = simp (lt-leb (length (header_bytes id count)) (length output) (omega (arith, length-header_bytes id count))) (refl, refl)

  -- id and version first, then the count's varint after them
  pub header-stored : {end : Option ℕ} {out : List ℕ} → header_len count ≤ length output
      → (end ≡ laid_place (uvarint_write_outcome count (length (set (set output 0 id) 1 1) - 2)) 2)
      × (out ≡ laid (uvarint_write_outcome count (length (set (set output 0 id) 1 1) - 2)) 2 (set (set output 0 id) 1 1))
      → (end ≡ laid_place (fitting (header_bytes id count) (length output)) 0) × (out ≡ laid (fitting (header_bytes id count) (length output)) 0 output)
  unfolding fitting header_bytes header_len
  header-stored {end} {out} h p =
      let long : length (set (set output 0 id) 1 1) ≡ length output = length-set (set output 0 id) 1 1 ∙ length-set output 0 id in
      let bytes : length (uvarint_bytes count) ≡ uvarint_len count = length-uvarint_bytes count in
      let q = rw (uvarint_laid 2 (set (set output 0 id) 1 1) count (omega (arith, long, bytes, h))) at p in
      simp (le-leb (suc (suc (length (uvarint_bytes count)))) (length output) (omega (arith, bytes, h))) (q.0 ∙ ap Some (omega arith), q.1)

-- the length stays
pub length-laid : (o : Outcome (List ℕ)) (at : ℕ) (output : List ℕ) → length (laid o at output) ≡ length output
length-laid (refused number offset) at output = refl
length-laid (ok bytes) at output = length-sets output at bytes
