-- Writing a Dictionary chunk: its questions are those of collecting the distinct values, and then whether the output is long enough. By the first "no", or where header and body
-- were stored one after the other, the answer and the output are what the definitions say.
use mathlib.Core.Path.{◌≡◌, refl, sym, ap, ◌∙◌}
use mathlib.Core.Bool.{Bool, true, false, not}
use mathlib.Core.List.{List}
use Prim.Native.Nat.{ℕ, ◌+◌, ◌*◌, ◌≤◌, ◌<◌}
use native.Mathlib.Omega.{arith}
use lib.IntN.{ℤ}
use lib.Dec.{leb}
use lib.ListN.{length, take}
use lib.Seq.{sets, length-take-le}
use borrow.Author.Tests.{le-leb, lt-leb}
use Rattle.std.specs.Prelude.{Some}
use Rattle.format.specs.Outcome.{Outcome, refused, ok, check, ◌>>=◌}
use Rattle.format.specs.Encodings.{encoding_of, encodings, max_chunk_elements}
use Rattle.format.specs.Header.{header_len}
use Rattle.format.specs.Answers.{stored}
use Rattle.format.specs.Distinct.{distinct, Rising, too_many_distinct, scratch_needed, scratch_check}
use Rattle.format.specs.Dictionary.{dictionary_body, dictionary_body_with}
use Rattle.format.specs.Chunk.{body_of, chunk_of}
use Rattle.format.specs.Write.{for_dictionary, write_checks, write_outcome, write_answer, write_output}
use Rattle.format.specs.declared.encoding.Encoding.{Encoding}
use Rattle.format.specs.declared.encoding.Encoding.TheVariants.{Dictionary}
use Rattle.format.proofs.Numbers.Distinct.{distinct-rising}
use Rattle.format.proofs.Lengths.Exact.{length-chunk}
use Rattle.distinct.specs.Collect.{count_outcome, collect_outcome}
use Rattle.distinct.proofs.Answering.{Collected}
use Rattle.entries.specs.Measured.{body_len, measured_in}
use Rattle.entries.proofs.Limits.{body_len-most}
use Rattle.entries.proofs.Within.{measured-within}
use Rattle.dictionary.proofs.Body.{body-length}

-- ---- the entries at the front of the scratch

module _ {column scratch : List ℤ} {n : ℕ} (c : Collected column scratch n) where
  pub entries-rising : Rising (take n scratch)
  entries-rising = rw c.front (distinct-rising column)

  -- the body with these entries is the column's
  entries-body : dictionary_body_with (take n scratch) column ≡ body_of Dictionary column
  unfolding body_of dictionary_body
  entries-body = rw c.front

  pub entries-stored : (output : List ℕ) (at : ℕ) {out : List ℕ} → out ≡ sets output at (dictionary_body_with (take n scratch) column) → out ≡ sets output at (body_of Dictionary column)
  entries-stored output at e = e ∙ ap (sets output at) entries-body

  pub entries-length : body_len (take n scratch) (length column) ≡ length (body_of Dictionary column)
  entries-length = sym (body-length (take n scratch) column) ∙ ap length entries-body

  -- it is what is measured
  pub same-measured : measured_in (take n scratch) (length column) ≡ Some (body_len (take n scratch) (length column))
  same-measured = measured-within (take n scratch) (length column) c.few (rw (length-take-le n scratch c.there) c.most)

  pub entries-most : body_len (take n scratch) (length column) ≤ 11 + 10 * n + 8 * length column
  entries-most = rw (length-take-le n scratch c.there) at (body_len-most (take n scratch) (length column))

  pub entries-measured : {header body : ℕ} → header ≡ header_len (length column) → Some body ≡ measured_in (take n scratch) (length column)
      → header + body ≡ header_len (length column) + length (body_of Dictionary column)
  entries-measured {body} h b =
      let long : body ≡ body_len (take n scratch) (length column) = cc (b, same-measured) in
      omega (arith, entries-length)

-- ---- the questions

module _ (column : List ℤ) (room : ℕ) where
  -- once the distinct values are collected: "Output long enough? 20"
  abbrev last : ℕ → Encoding → Outcome (List ℕ)
  last space e = check (leb (length (chunk_of e column)) space) 20 (length (chunk_of e column)) >>= λ _. ok (chunk_of e column)

  write-asked : (space : ℕ) → write_outcome 6 column room space ≡ (collect_outcome column room >>= λ _. last space Dictionary)
  unfolding write_outcome write_checks collect_outcome scratch_check count_outcome encoding_of encodings
  write-asked space = go (leb (length column) max_chunk_elements) (leb (scratch_needed column) room) (not (too_many_distinct column))
    where
      go : (a b d : Bool)
          → ((check a 21 0 >>= λ _. check b 22 0 >>= λ _. ok Dictionary) >>= λ e. for_dictionary (ok tt) (check d 23 0) e >>= λ _. last space e)
          ≡ ((check a 21 0 >>= λ _. check b 22 0 >>= λ _. check d 23 0 >>= λ _. ok (length (distinct column))) >>= λ _. last space Dictionary)
      go false b d = refl
      go true false d = refl
      go true true false = refl
      go true true true = refl

  module _ (output : List ℕ) where
    abbrev pub Written : Outcome ℕ → List ℕ → Type 0
    Written answer out = (answer ≡ write_answer 6 column room (length output)) × (out ≡ write_output 6 column room output)

    pub write-refused : {number offset : ℕ} → collect_outcome column room ≡ refused number offset → Written (refused number offset) output
    unfolding write_answer write_output
    write-refused e = rw (write-asked (length output), e) (refl, refl)

    module _ {n : ℕ} (e : collect_outcome column room ≡ ok n) {needed : ℕ} (measured : needed ≡ header_len (length column) + length (body_of Dictionary column)) where
      same : needed ≡ length (chunk_of Dictionary column)
      same = measured ∙ sym (length-chunk Dictionary column)

      pub write-short : length output < needed → Written (refused 20 needed) output
      unfolding write_answer write_output
      write-short h = rw (write-asked (length output), e, lt-leb (length (chunk_of Dictionary column)) (length output) (omega (arith, same))) (ap (refused 20) same, refl)

      pub write_done : needed ≤ length output → {out : List ℕ} → out ≡ stored (chunk_of Dictionary column) output → Written (ok needed) out
      unfolding write_answer write_output
      write_done h done = rw (write-asked (length output), e, le-leb (length (chunk_of Dictionary column)) (length output) (omega (arith, same))) (ap ok same, done)
