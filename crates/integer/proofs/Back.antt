-- Writing and then reading the bytes that were stored: where writing is accepted the output's front is the column's chunk, and reading that chunk gives the column back.
use mathlib.Core.Path.{◌≡◌, refl, sym, ap, ◌∙◌}
use mathlib.Core.Bool.{Bool, true, false, not}
use mathlib.Core.List.{List, [], append-nil}
use Prim.Native.Nat.{ℕ, ◌<◌, ◌≤◌}
use native.Mathlib.Omega.{arith}
use lib.IntN.{ℤ}
use lib.Dec.{leb}
use lib.ListN.{length, take, drop, length-append}
use lib.Seq.{take_at}
use borrow.Author.Tests.{lt-leb, leb-true, leb-false, eq-eqb}
use Rattle.format.specs.Outcome.{Outcome, refused, ok, check, ◌>>=◌}
use Rattle.format.specs.Keys.{Keys}
use Rattle.format.specs.Encodings.{id_of, encoding_of, within, max_chunk_elements}
use Rattle.format.specs.Answers.{stored, stored_answer, buffer_after}
use Rattle.format.specs.Chunk.{chunk_of}
use Rattle.format.specs.Header.{Naming}
use Rattle.format.specs.Distinct.{too_many_distinct, scratch_check}
use Rattle.format.specs.Read.{validate, strict_checks, read_outcome, read_answer, read_column}
use Rattle.format.specs.ThirdDemand.{NamedFor, unnamed-reading, named-reading}
use Rattle.format.specs.Write.{for_dictionary, write_checks, write_outcome, write_answer, write_output}
use Rattle.format.specs.declared.encoding.Encoding.{Encoding}
use Rattle.std.specs.Prelude.{Option, None}
use Rattle.std.specs.Bool.{then_some}
use Rattle.format.proofs.Codecs.Chunk.{chunk_written, validate-back, read_answer-back, read_column-back}
use Rattle.format.proofs.Codecs.Outcome.{both-passed, check-passed}
use Rattle.integer.proofs.Numbered.{id-of}
use Rattle.integer.specs.Back.{back_outcome, naming_of}

-- ---- what writing found

module _ (number : ℕ) (column : List ℤ) (room space : ℕ) where
  pub record Chunk (bytes : List ℕ) : Type 0 where
    pub encoding : Encoding
    pub numbered : number ≡ id_of encoding
    pub few : length column ≤ max_chunk_elements
    pub bytes-are : bytes ≡ chunk_of encoding column
    pub fits : length bytes ≤ space

  chunk-found : {bytes : List ℕ} → write_outcome number column room space ≡ ok bytes → Chunk bytes
  unfolding write_outcome write_checks
  chunk-found {bytes} h =
      both-passed (write_checks number column room) _ h λ e checks h₁.
      both-passed (for_dictionary (ok tt) (check (not (too_many_distinct column)) 23 0) e) _ h₁ λ _ _ h₂.
      both-passed (check (leb (length (chunk_of e column)) space) 20 (length (chunk_of e column))) _ h₂ λ _ enough h₃.
      both-passed (check (within 1 7 number) 2 0) _ checks λ _ seven k₁.
      both-passed (check (leb (length column) max_chunk_elements) 21 0) _ k₁ λ _ few k₂.
      both-passed (for_dictionary (ok tt) (scratch_check column room) (encoding_of number)) _ k₂ λ _ _ k₃.
      let same : encoding_of number ≡ e = cc in
      let are : chunk_of e column ≡ bytes = cc in
      record {
        encoding = e;
        numbered = id-of number (check-passed _ 2 0 seven) ∙ ap id_of same;
        few = leb-true (length column) max_chunk_elements (check-passed _ 21 0 few);
        bytes-are = sym are;
        fits = omega (arith, ap length are, leb-true (length (chunk_of e column)) space (check-passed _ 20 _ enough));
      }

-- ---- reading a column's chunk into a buffer that may be too short

module _ (e : Encoding) (strict : Bool) {naming : Naming} (column : List ℤ) (ks : Keys column) (few : length column ≤ max_chunk_elements) (r : NamedFor e naming) where
  strictly : (b : Bool) (s : List ℕ) → strict_checks b s (record { end = length s; padded = None }) ≡ ok tt
  unfolding strict_checks
  strictly true s = rw (eq-eqb (length s) (length s) refl)
  strictly false s = refl

  short : (room : ℕ) → room < length column → read_outcome strict naming (chunk_of e column) room ≡ refused 20 (length column)
  unfolding read_outcome
  short room h =
      let all : validate naming (chunk_of e column) ≡ ok (chunk_written e column)
      = ap (validate naming) (sym (append-nil (chunk_of e column))) ∙ validate-back e column [] ks few r in
      rw (all, strictly strict (chunk_of e column), lt-leb (length column) room h)

  -- the column itself, or 20
  abbrev gives : List ℤ → Outcome (List ℤ)
  gives places = check (leb (length column) (length places)) 20 (length column) >>= λ _. ok column

  chunk_read : (places : List ℤ) → (read_answer strict naming (chunk_of e column) (length places) ≡ stored_answer (gives places))
      × (read_column strict naming (chunk_of e column) places ≡ buffer_after (gives places) places)
  unfolding read_answer read_column stored
  chunk_read places = go (leb (length column) (length places)) refl
    where
      Reads : Bool → Type 0
      Reads t = (read_answer strict naming (chunk_of e column) (length places) ≡ stored_answer (check t 20 (length column) >>= λ _. ok column))
          × (read_column strict naming (chunk_of e column) places ≡ buffer_after (check t 20 (length column) >>= λ _. ok column) places)

      go : (t : Bool) → leb (length column) (length places) ≡ t → Reads t
      go true p =
          let h = leb-true (length column) (length places) p in
          (read_answer-back e strict column ks few r (length places) h, read_column-back e strict column ks few r places h)
      go false p = rw (short (length places) (leb-false (length column) (length places) p)) (refl, refl)

module _ (number : ℕ) (column : List ℤ) (room : ℕ) (output : List ℕ) (places : List ℤ) where
  -- writing was refused
  pub back-refused : {n k : ℕ} → write_answer number column room (length output) ≡ refused n k
      → (refused n k ≡ stored_answer (back_outcome number column room (length output) (length places)))
      × (places ≡ buffer_after (back_outcome number column room (length output) (length places)) places)
  unfolding write_answer back_outcome
  back-refused {n} {k} h = go (write_outcome number column room (length output)) h
    where
      rest : List ℕ → Outcome (List ℤ)
      rest _ = check (leb (length column) (length places)) 20 (length column) >>= λ _. ok column

      go : (o : Outcome (List ℕ)) → stored_answer o ≡ refused n k → (refused n k ≡ stored_answer (o >>= rest)) × (places ≡ buffer_after (o >>= rest) places)
      go (refused a b) p = (sym p, refl)
      go (ok bytes) p = let z : ◌≡◌ {A = ℕ} 0 1 = cc in absurd (omega arith)

  module _ {n : ℕ} (accepted : write_answer number column room (length output) ≡ ok n) where
    -- the output's front is the chunk
    pub back-front : (bytes : List ℕ) × (write_outcome number column room (length output) ≡ ok bytes) × (n ≡ length bytes)
        × (n ≤ length (write_output number column room output)) × (take n (write_output number column room output) ≡ bytes)
    unfolding write_answer write_output stored
    back-front = go (write_outcome number column room (length output)) refl accepted
      where
        go : (o : Outcome (List ℕ)) → write_outcome number column room (length output) ≡ o → stored_answer o ≡ ok n
            → (bytes : List ℕ) × (o ≡ ok bytes) × (n ≡ length bytes) × (n ≤ length (buffer_after o output)) × (take n (buffer_after o output) ≡ bytes)
        go (refused a b) p q = let z : ◌≡◌ {A = ℕ} 0 1 = cc in absurd (omega arith)
        go (ok bytes) p q =
            let same : n ≡ length bytes = cc in
            (bytes, refl, same, omega (arith, same, length-append bytes (drop (length bytes) output)), take_at bytes (drop (length bytes) output) n (sym same))

    -- what reading that front answers and leaves
    pub back_read :
        Keys column → {name : Option ℕ} (naming strict : Bool) → name ≡ then_some naming number → {after : List ℕ} {answer : Outcome ℕ} {places-after : List ℤ} → after ≡ write_output number column room output
        → (answer ≡ read_answer strict (naming_of name) (take n after) (length places))
        × (places-after ≡ read_column strict (naming_of name) (take n after) places)
        → (answer ≡ stored_answer (back_outcome number column room (length output) (length places)))
        × (places-after ≡ buffer_after (back_outcome number column room (length output) (length places)) places)
    unfolding back_outcome
    back_read ks naming strict named is done =
        let f = back-front in
        let c = chunk-found number column room (length output) f.1 in
        let all = chunk_read c.encoding strict column ks c.few (rw named (reading naming c.numbered)) places in
        let read = rw (is, f.4, c.bytes-are) at done in
        rw f.1 (read.0 ∙ all.0, read.1 ∙ all.1)
      where
        reading : (b : Bool) {e : Encoding} → number ≡ id_of e → NamedFor e (naming_of (then_some b number))
        reading true p = rw p named-reading
        reading false p = unnamed-reading
