-- Writing and reading by a number: one from 1 to 7 is an encoding's id, any other is refused with 2; and only Dictionary looks at the scratch.
use mathlib.Core.Path.{◌≡◌, refl, ap, ◌∙◌}
use mathlib.Core.Bool.{Bool, true, false, ◌&&◌}
use mathlib.Core.List.{List}
use Prim.Native.Nat.{ℕ, zero, suc, ◌≤◌}
use native.Mathlib.Omega.{arith}
use lib.IntN.{ℤ}
use lib.Dec.{leb}
use lib.ListN.{length}
use borrow.Author.Tests.{leb-true}
use Rattle.std.proofs.lemmas.Bool.{and_parts}
use Rattle.format.specs.Outcome.{refused, ok, check, ◌>>=◌}
use Rattle.format.specs.Encodings.{id_of, encodings, encoding_of, within, max_chunk_elements}
use Rattle.format.specs.Distinct.{collected}
use Rattle.format.specs.Header.{named, read_id, read_header}
use Rattle.format.specs.Parts.{encoding_named}
use Rattle.format.specs.Read.{validate, read_outcome, read_answer, read_column}
use Rattle.format.specs.Write.{for_dictionary, write_checks, write_outcome, write_answer, write_output, write_scratch, scratch_after_checks}
use Rattle.format.specs.declared.encoding.Encoding.{Encoding}
use Rattle.format.specs.declared.encoding.Encoding.TheVariants.{Plain, Varint, BitPacked, FrameOfReference, RunLength, Dictionary, DeltaBinaryPacked}

too_large : (n : ℕ) → suc (suc (suc (suc (suc (suc (suc (suc n))))))) ≤ 7 → ⊥
too_large n h = omega arith

-- a number that is none of 1 to 7 names no encoding
pub other-number : (n : ℕ) → (1 ≤ n → n ≤ 7 → ⊥) → refused 2 0 ≡ encoding_named n
unfolding encoding_named
other-number n others = go (leb 1 n) (leb n 7) refl refl
  where
    go : (low high : Bool) → leb 1 n ≡ low → leb n 7 ≡ high → refused 2 0 ≡ (check (low && high) 2 0 >>= λ _. ok (encoding_of n))
    go false high p q = refl
    go true false p q = refl
    go true true p q = absurd (others (leb-true 1 n p) (leb-true n 7 q))

-- the id of the encoding with a number is that number: seven cases
pub id-of : (number : ℕ) → within 1 7 number ≡ true → number ≡ id_of (encoding_of number)
unfolding encoding_of encodings
id-of zero h = cc
id-of (suc zero) h = refl
id-of (suc (suc zero)) h = refl
id-of (suc (suc (suc zero))) h = refl
id-of (suc (suc (suc (suc zero)))) h = refl
id-of (suc (suc (suc (suc (suc zero))))) h = refl
id-of (suc (suc (suc (suc (suc (suc zero)))))) h = refl
id-of (suc (suc (suc (suc (suc (suc (suc zero))))))) h = refl
id-of (suc (suc (suc (suc (suc (suc (suc (suc number)))))))) h =
    absurd (too_large number (leb-true (suc (suc (suc (suc (suc (suc (suc (suc number)))))))) 7 (and_parts (leb 1 (suc (suc (suc (suc (suc (suc (suc (suc number))))))))) _ h).1))

module _ (number : ℕ) where
  -- a known number is its encoding's id
  pub known_number : {e : Encoding} → ok e ≡ encoding_named number → number ≡ id_of e
  unfolding encoding_named
  known_number {e} h = go (within 1 7 number) refl h
    where
      go : (t : Bool) → within 1 7 number ≡ t → ok e ≡ (check t 2 0 >>= λ _. ok (encoding_of number)) → number ≡ id_of e
      go false p q = let z : ◌≡◌ {A = ℕ} 0 1 = cc in absurd (omega arith)
      go true p q = let same : encoding_of number ≡ e = cc in id-of number p ∙ ap id_of same

  -- any other is refused as it is told
  refused-number : {n k : ℕ} → refused n k ≡ encoding_named number → (within 1 7 number ≡ false) × (n ≡ 2) × (k ≡ 0)
  unfolding encoding_named
  refused-number {n} {k} h = go (within 1 7 number) refl h
    where
      go : (t : Bool) → within 1 7 number ≡ t → refused n k ≡ (check t 2 0 >>= λ _. ok (encoding_of number)) → (within 1 7 number ≡ false) × (n ≡ 2) × (k ≡ 0)
      go true p q = let z : ◌≡◌ {A = ℕ} 0 1 = cc in absurd (omega arith)
      go false p q = (p, cc, cc)

  module _ {n k : ℕ} (h : refused n k ≡ encoding_named number) where
    -- writing in it is refused, and nothing is touched
    pub unknown_write : (column scratch : List ℤ) (output : List ℕ) → refused n k ≡ write_answer number column (length scratch) (length output)
    unfolding write_answer write_outcome write_checks
    unknown_write column scratch output = let f = refused-number h in rw (f.0, f.1, f.2) refl

    pub unknown_scratch : (column scratch : List ℤ) → scratch ≡ write_scratch number column scratch
    unfolding write_scratch write_checks
    unknown_scratch column scratch = rw (refused-number h).0 refl

    pub unknown_output : (column : List ℤ) (room : ℕ) (output : List ℕ) → output ≡ write_output number column room output
    unfolding write_output write_outcome write_checks
    unknown_output column room output = rw (refused-number h).0 refl

    -- and so is reading by its name
    pub unknown_name : (strict : Bool) (s : List ℕ) (room : ℕ) → refused n k ≡ read_answer strict (named number) s room
    unfolding read_answer read_outcome validate read_header read_id
    unknown_name strict s room = let f = refused-number h in rw (f.0, f.1, f.2) refl

    pub unknown_column : (strict : Bool) (s : List ℕ) (column : List ℤ) → column ≡ read_column strict (named number) s column
    unfolding read_column read_outcome validate read_header read_id
    unknown_column strict s column = rw (refused-number h).0 refl

-- the scratch after writing in an encoding: only Dictionary looks at it
pub scratch_by : (e : Encoding) (column scratch : List ℤ) → write_scratch (id_of e) column scratch ≡ for_dictionary scratch (write_scratch 6 column scratch) e
unfolding write_scratch write_checks encoding_of encodings
scratch_by e column scratch = go e
  where
    asked : Encoding → Bool → List ℤ
    asked e t = scratch_after_checks (check t 21 0 >>= λ _. ok e) column scratch

    stays : (e : Encoding) → for_dictionary scratch (collected column scratch) e ≡ scratch → (t : Bool) → asked e t ≡ scratch
    stays e keeps true = keeps
    stays e keeps false = refl

    few : Bool
    few = leb (length column) max_chunk_elements

    go : (e : Encoding) → write_scratch (id_of e) column scratch ≡ for_dictionary scratch (write_scratch 6 column scratch) e
    go Plain = stays Plain refl few
    go Varint = stays Varint refl few
    go BitPacked = stays BitPacked refl few
    go FrameOfReference = stays FrameOfReference refl few
    go RunLength = stays RunLength refl few
    go Dictionary = refl
    go DeltaBinaryPacked = stays DeltaBinaryPacked refl few
