-- Reading by the first byte: where it says an encoding, a reading that names none is the one that names that; where it does not, its refusal is the answer and the column stays.
use mathlib.Core.Path.{◌≡◌, refl, sym, ap, ◌∙◌}
use mathlib.Core.Bool.{Bool, true, ◌&&◌}
use mathlib.Core.List.{List}
use Prim.Native.Nat.{ℕ}
use native.Mathlib.Omega.{arith}
use lib.IntN.{ℤ}
use lib.Dec.{leb, ltb}
use lib.ListN.{length, get_or}
use borrow.Author.Tests.{eq-eqb}
use Rattle.std.proofs.lemmas.Bool.{and_parts}
use Rattle.format.specs.Outcome.{Outcome, refused, ok, check, ◌>>=◌}
use Rattle.format.specs.Encodings.{id_of, encoding_of, within}
use Rattle.format.specs.Header.{unnamed, named, read_id, read_header}
use Rattle.format.specs.Read.{validate, read_outcome, read_answer, read_column}
use Rattle.format.specs.Parts.{peeked}
use Rattle.format.specs.declared.encoding.Encoding.{Encoding}
use Rattle.format.proofs.Codecs.Outcome.{both-passed, check-passed}
use Rattle.integer.proofs.Numbered.{id-of}

-- an id that passes unnamed passes named by itself
id-again : (s : List ℕ) {id : ℕ} → read_id unnamed s ≡ ok id → (within 1 7 id ≡ true) × (read_id (named id) s ≡ ok id)
unfolding read_id
id-again s {id} h =
    both-passed (check (ltb 0 (length s) && within 1 9 (get_or s 0 0)) 1 0) _ h λ _ known h₁.
    both-passed (check (within 1 7 (get_or s 0 0)) 2 0) _ h₁ λ _ integer h₂.
    both-passed (check (leb 2 (length s)) 3 0) _ h₂ λ _ two h₃.
    let same : get_or s 0 0 ≡ id = cc in
    let i : within 1 7 (get_or s 0 0) ≡ true = check-passed _ 2 0 integer in
    let t : leb 2 (length s) ≡ true = check-passed _ 3 0 two in
    let k : within 1 9 (get_or s 0 0) ≡ true = (and_parts (ltb 0 (length s)) _ (check-passed _ 1 0 known)).1 in
    rw (← same) (i, rw (i, t, k, eq-eqb (get_or s 0 0) (get_or s 0 0) refl) refl)

-- where an encoding is said, naming it makes no difference
ids : (s : List ℕ) {e : Encoding} → ok e ≡ peeked s → read_id unnamed s ≡ read_id (named (id_of e)) s
unfolding peeked
ids s {e} h =
    both-passed (read_id unnamed s) _ (sym h) λ id p h₁.
    let same : encoding_of id ≡ e = cc in
    let again = id-again s p in
    let number : id ≡ id_of e = id-of id again.0 ∙ ap id_of same in
    p ∙ ap ok number ∙ sym (rw number at again.1)

-- where none is said, that is the refusal
unknown-id : (s : List ℕ) {n k : ℕ} → refused n k ≡ peeked s → read_id unnamed s ≡ refused n k
unfolding peeked
unknown-id s {n} {k} h = go (read_id unnamed s) h
  where
    go : (o : Outcome ℕ) → refused n k ≡ (o >>= λ id. ok (encoding_of id)) → o ≡ refused n k
    go (refused number offset) q = cc
    go (ok id) q = let z : ◌≡◌ {A = ℕ} 0 1 = cc in absurd (omega arith)

module _ (strict : Bool) (s : List ℕ) (column : List ℤ) where
  pub peek_known : {e : Encoding} → ok e ≡ peeked s
      → (read_answer strict (named (id_of e)) s (length column) ≡ read_answer strict unnamed s (length column))
      × (read_column strict (named (id_of e)) s column ≡ read_column strict unnamed s column)
  unfolding read_answer read_column read_outcome validate read_header
  peek_known h = rw (ids s h) (refl, refl)

  module _ {n k : ℕ} (h : refused n k ≡ peeked s) where
    pub peek_unknown : refused n k ≡ read_answer strict unnamed s (length column)
    unfolding read_answer read_outcome validate read_header
    peek_unknown = rw (unknown-id s h) refl

    pub peek_kept : column ≡ read_column strict unnamed s column
    unfolding read_column read_outcome validate read_header
    peek_kept = rw (unknown-id s h) refl
