-- Writing a chunk from its parts, for every encoding but Dictionary: where the column is too long, where the output is too short, and where header and body were stored one
-- after the other, the answer and the output are what the definitions say.
use mathlib.Core.Path.{◌≡◌, refl, sym, ap, ap₂, ◌∙◌}
use mathlib.Core.List.{List, ◌++◌}
use Prim.Native.Nat.{ℕ, ◌+◌, ◌<◌, ◌≤◌}
use native.Mathlib.Omega.{arith}
use lib.IntN.{ℤ}
use lib.ListN.{length, length-append}
use lib.Seq.{sets, length-sets}
use borrow.Author.Tests.{le-leb, lt-leb}
use Rattle.std.specs.Prelude.{Option, Some}
use Rattle.std.specs.Option.{IsSome}
use Rattle.format.specs.Outcome.{Outcome, ok, refused}
use Rattle.format.specs.Encodings.{id_of, max_chunk_elements}
use Rattle.format.specs.Header.{header_bytes, header_len}
use Rattle.format.specs.Answers.{stored}
use Rattle.format.specs.Chunk.{body_of, chunk_of}
use Rattle.format.specs.Write.{for_dictionary, write_checks, write_outcome, write_answer, write_output}
use Rattle.format.specs.declared.Encoding.{Encoding}
use Rattle.format.proofs.Codecs.Encodings.{encoding_of-id, id-within}
use Rattle.format.proofs.Codecs.Header.{length-header_bytes}
use Rattle.format.proofs.Lengths.Exact.{length-chunk}
use Rattle.format.proofs.Numbers.Stores.{sets-append, sets-stored}
use Rattle.places.specs.Places.{fitting, laid, laid_place}
use Rattle.places.proofs.Placing.{put_some}

-- header and body, stored one after the other
module _ (e : Encoding) (column : List ℤ) (output : List ℕ) {needed : ℕ} (measured : needed ≡ header_len (length column) + length (body_of e column))
    (there : needed ≤ length output) {end : Option ℕ} {begun : List ℕ}
    (header : (end ≡ laid_place (fitting (header_bytes (id_of e) (length column)) (length output)) 0)
    × (begun ≡ laid (fitting (header_bytes (id_of e) (length column)) (length output)) 0 output))
  where
    abbrev front : List ℕ
    front = header_bytes (id_of e) (length column)

    long : length front ≡ header_len (length column)
    long = length-header_bytes (id_of e) (length column)

    laid-front : (end ≡ Some (0 + length front)) × (begun ≡ sets output 0 front)
    unfolding fitting
    laid-front = rw (le-leb (length front) (length output) (omega (arith, long, measured, there))) at header

    pub header-there : IsSome end
    header-there = put_some 0 front laid-front.0

    module _ {at : ℕ} (found : end ≡ Some at) where
      after : at ≡ 0 + length front
      after = let both : Some at ≡ Some (0 + length front) = sym found ∙ laid-front.0 in cc

      -- the body has room after the header
      pub body-room : at + length (body_of e column) ≤ length begun
      body-room = omega (arith, after, long, measured, there, ap length laid-front.1, length-sets output 0 front)

      -- and ends where the chunk does
      pub body_end : at + length (body_of e column) ≡ needed
      body_end = omega (arith, after, long, measured)

      pub chunk-stored : {out : List ℕ} → out ≡ sets begun at (body_of e column) → out ≡ stored (chunk_of e column) output
      unfolding chunk_of
      chunk-stored done =
          done
          ∙ ap₂ (λ (l : List ℕ) (i : ℕ). sets l i (body_of e column)) laid-front.1 after
          ∙ sym (sets-append front (body_of e column) output 0)
          ∙ sets-stored (front ++ body_of e column) output (omega (arith, length-append front (body_of e column), long, measured, there))

module _ (e : Encoding) (column : List ℤ) (room : ℕ) (output : List ℕ) where
  -- an answer to writing, and the output after it
  abbrev pub Written : Outcome ℕ → List ℕ → Type 0
  Written answer out = (answer ≡ write_answer (id_of e) column room (length output)) × (out ≡ write_output (id_of e) column room output)

  pub write-many : max_chunk_elements < length column → Written (refused 21 0) output
  unfolding write_answer write_output write_outcome write_checks
  write-many h = simp (id-within e, lt-leb (length column) max_chunk_elements h) (refl, refl)

  module _ (few : length column ≤ max_chunk_elements) (scratchless : (k : Outcome (Unit {0})) → for_dictionary (ok tt) k e ≡ ok tt)
      {needed : ℕ} (measured : needed ≡ header_len (length column) + length (body_of e column))
    where
      same : needed ≡ length (chunk_of e column)
      same = measured ∙ sym (length-chunk e column)

      pub write-short : length output < needed → Written (refused 20 needed) output
      unfolding write_answer write_output write_outcome write_checks
      write-short h =
          simp (id-within e, le-leb (length column) max_chunk_elements few, encoding_of-id e, scratchless, lt-leb (length (chunk_of e column)) (length output) (omega (arith, same, h)))
          (ap (λ (n : ℕ). refused 20 n) same, refl)

      pub write_done : needed ≤ length output → {out : List ℕ} → out ≡ stored (chunk_of e column) output → Written (ok needed) out
      unfolding write_answer write_output write_outcome write_checks
      write_done h done =
          simp (id-within e, le-leb (length column) max_chunk_elements few, encoding_of-id e, scratchless, le-leb (length (chunk_of e column)) (length output) (omega (arith, same, h)))
          (ap ok same, done)
