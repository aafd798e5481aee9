-- Reading a chunk from its parts, for every encoding: the whole list of questions is the header's, the body's and those that `settle` asks, one after the other.
use mathlib.Core.Path.{◌≡◌, refl, sym, ap, ◌∙◌}
use mathlib.Core.Bool.{Bool}
use mathlib.Core.List.{List}
use Prim.Native.Nat.{ℕ, ◌≤◌}
use native.Mathlib.Omega.{arith}
use lib.IntN.{ℤ}
use lib.Dec.{leb, eqb}
use lib.ListN.{length, get_or}
use lib.Seq.{sets}
use borrow.Author.Tests.{eqb-true}
use Rattle.format.specs.Outcome.{Outcome, refused, ok, check, ◌>>=◌}
use Rattle.format.specs.Encodings.{id_of, encoding_of, within, max_chunk_elements}
use Rattle.format.specs.Varint.{Uvarint, read_uvarint, first_padded}
use Rattle.std.specs.Prelude.{None}
use Rattle.format.specs.Answers.{stored, buffer_after}
use Rattle.format.specs.Header.{named, read_id, read_header}
use Rattle.format.specs.Chunk.{validate_body, body_values}
use Rattle.format.specs.Read.{validate, Validated, strict_checks, read_outcome, values_of, read_answer, read_column}
use Rattle.format.specs.Parts.{settled}
use Rattle.format.specs.declared.encoding.Encoding.{Encoding}
use Rattle.format.specs.declared.Extent.{Extent}
use Rattle.format.specs.declared.Header.{Header}
use Rattle.format.proofs.Codecs.Counts.{body-count}
use Rattle.codec.specs.Valid.{Valid}
use Rattle.format.proofs.Numbers.Stores.{sets-stored}
use Rattle.format.proofs.Codecs.Encodings.{encoding_of-id}
use Rattle.format.proofs.Codecs.Outcome.{both-passed, check-passed}

-- a header that a named reading passed has that id
id-named : (name : ℕ) (s : List ℕ) {id : ℕ} → read_id (named name) s ≡ ok id → id ≡ name
unfolding read_id
id-named name s {id} passed =
    both-passed (check (within 1 7 name) 2 0) _ passed λ _ _ h₁.
    both-passed (check (leb 2 (length s)) 3 0) _ h₁ λ _ _ h₂.
    both-passed (check (within 1 9 (get_or s 0 0)) 1 0) _ h₂ λ _ _ h₃.
    both-passed (check (eqb (get_or s 0 0) name) 4 0) _ h₃ λ _ same h₄.
    let f : get_or s 0 0 ≡ id = cc in
    let g : get_or s 0 0 ≡ name = eqb-true (get_or s 0 0) name (check-passed _ 4 0 same) in
    cc

header-id : (name : ℕ) (s : List ℕ) {h : Header} → read_header (named name) s ≡ ok h → h.id ≡ name
unfolding read_header
header-id name s {h} passed =
    both-passed (read_id (named name) s) _ passed λ id i h₁.
    both-passed (check (eqb (get_or s 1 0) 1) 5 1) _ h₁ λ _ _ h₂.
    both-passed (read_uvarint s 2) _ h₂ λ count c h₃.
    both-passed (check (leb count.value max_chunk_elements) 8 2) _ h₃ λ _ few h₄.
    let k : header id count ≡ h = cc in
    rw (← k) (id-named name s i)
  where
    header : ℕ → Uvarint → Header
    header id count = record { id = id; count = count.value; start = count.next; padded = first_padded None 2 count.unpadded }

module _ (e : Encoding) (strict : Bool) (s : List ℕ) where
  -- the steps of reading, and then what is made of the header
  abbrev pub steps : {B : Type 0} → ℕ → (Header → B) → Outcome B
  steps room g =
      read_header (named (id_of e)) s >>= λ h.
      settled strict s h.count room (validate_body e s h.start h.count h.padded) >>= λ _. ok (g h)

  steps-are : {B : Type 0} (room : ℕ) (f : Validated → B) (g : Header → B) → ((h : Header) (b : Extent) → encoding_of h.id ≡ e → f (record { header = h; body = b }) ≡ g h)
      → (read_outcome strict (named (id_of e)) s room >>= λ c. ok (f c)) ≡ steps room g
  unfolding read_outcome validate settled
  steps-are {B} room f g same = go (read_header (named (id_of e)) s) refl
    where
      found : Header → Extent → Validated
      found h b = record { header = h; body = b }

      last : (h : Header) (b : Extent) → f (found h b) ≡ g h → (o : Outcome (Unit {0}))
          → ((o >>= λ _. ok (found h b)) >>= λ c. ok (f c)) ≡ ((o >>= λ _. ok h.count) >>= λ _. ok (g h))
      last h b q (refused number offset) = refl
      last h b q (ok u) = ap ok q

      strictly : (h : Header) (b : Extent) → f (found h b) ≡ g h → (o : Outcome (Unit {0}))
          → ((o >>= λ _. check (leb h.count room) 20 h.count >>= λ _. ok (found h b)) >>= λ c. ok (f c))
          ≡ ((o >>= λ _. check (leb h.count room) 20 h.count >>= λ _. ok h.count) >>= λ _. ok (g h))
      strictly h b q (refused number offset) = refl
      strictly h b q (ok u) = last h b q (check (leb h.count room) 20 h.count)

      body : (h : Header) → encoding_of h.id ≡ e → (o : Outcome Extent)
          → (((o >>= λ b. ok (found h b)) >>= λ c. strict_checks strict s c.body >>= λ _. check (leb c.header.count room) 20 c.header.count >>= λ _. ok c) >>= λ c. ok (f c))
          ≡ ((o >>= λ b. strict_checks strict s b >>= λ _. check (leb h.count room) 20 h.count >>= λ _. ok h.count) >>= λ _. ok (g h))
      body h n (refused number offset) = refl
      body h n (ok b) = strictly h b (same h b n) (strict_checks strict s b)

      go : (o : Outcome Header) → read_header (named (id_of e)) s ≡ o
          → (((o >>= λ h. validate_body (encoding_of h.id) s h.start h.count h.padded >>= λ b. ok (found h b))
          >>= λ c. strict_checks strict s c.body >>= λ _. check (leb c.header.count room) 20 c.header.count >>= λ _. ok c) >>= λ c. ok (f c))
          ≡ (o >>= λ h. (validate_body e s h.start h.count h.padded >>= λ b. strict_checks strict s b >>= λ _. check (leb h.count room) 20 h.count >>= λ _. ok h.count) >>= λ _. ok (g h))
      go (refused number offset) p = refl
      go (ok h) p =
          let n : encoding_of h.id ≡ e = ap encoding_of (header-id (id_of e) s p) ∙ encoding_of-id e in
          rw n (body h n (validate_body e s h.start h.count h.padded))

  pub answer_steps : (room : ℕ) → read_answer strict (named (id_of e)) s room ≡ steps room (λ h. h.count)
  unfolding read_answer
  answer_steps room = steps-are room (λ c. c.header.count) (λ h. h.count) (λ h b n. refl)

  pub column_steps : (column : List ℤ)
      → read_column strict (named (id_of e)) s column ≡ buffer_after (steps (length column) (λ h. body_values e s h.start h.count)) column
  unfolding read_column values_of
  column_steps column =
      ap (λ (o : Outcome (List ℤ)). buffer_after o column)
      (steps-are (length column) (values_of s) (λ h. body_values e s h.start h.count) (λ h b n. rw n refl))

-- ---- what the questions after the body's found

-- passed, they had a body that was passed
pub passed-body : (strict : Bool) (s : List ℕ) (count room : ℕ) (o : Outcome Extent) {m : ℕ} → settled strict s count room o ≡ ok m → (x : Extent) × (o ≡ ok x)
unfolding settled
passed-body strict s count room (refused number offset) e = let z : ◌≡◌ {A = ℕ} 0 1 = cc in absurd (omega arith)
passed-body strict s count room (ok b) e = (b, refl)

-- ---- the call

module _ (e : Encoding) (strict : Bool) (s : List ℕ) (column : List ℤ) where
  -- an answer to reading, and the column after it
  abbrev pub Reads : Outcome ℕ → List ℤ → Type 0
  Reads answer out = (answer ≡ read_answer strict (named (id_of e)) s (length column)) × (out ≡ read_column strict (named (id_of e)) s column)

  module _ {h : Header} (found : read_header (named (id_of e)) s ≡ ok h) where
    abbrev asked : Outcome Extent → Outcome ℕ
    asked body = settled strict s h.count (length column) body

    abbrev body : Outcome Extent
    body = validate_body e s h.start h.count h.padded

    -- a body that is refused
    pub read-refused : {number offset : ℕ} → asked (refused number offset) ≡ asked body → Reads (refused number offset) column
    unfolding settled
    read-refused r = rw (answer_steps e strict s (length column), column_steps e strict s column, found, ← r) (refl, refl)

    -- the body was passed, and its values fill the column's front
    module _ (few : h.count ≤ max_chunk_elements) (within : h.start ≤ length s) (passed : asked body ≡ ok h.count) where
      pub read-valid : Valid e s h
      read-valid =
          let x = passed-body strict s h.count (length column) body passed in
          record { few = few; within = within; extent = x.0; passed = x.1 }

      pub read-filled : h.count ≤ length column → {out : List ℤ} → out ≡ sets column 0 (body_values e s h.start h.count) → Reads (ok h.count) out
      read-filled room filled =
          rw (answer_steps e strict s (length column), column_steps e strict s column, found, passed)
          (refl, filled ∙ sets-stored (body_values e s h.start h.count) column (omega (arith, room, body-count e s h.start h.count h.padded read-valid.passed)))

-- what fills a column's front is stored there
pub stored-sets :
    {e : Encoding} {s : List ℕ} {h : Header} → Valid e s h → (column : List ℤ) → h.count ≤ length column → {out : List ℤ} → out ≡ stored (body_values e s h.start h.count) column
    → out ≡ sets column 0 (body_values e s h.start h.count)
stored-sets {e} {s} {h} v column room filled =
    filled ∙ sym (sets-stored (body_values e s h.start h.count) column (rw (body-count e s h.start h.count h.padded v.passed) room))
