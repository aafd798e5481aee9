-- A turn of each loop: the word of a value is stored, the value of a word. What is left shrinks by just that (`Storing`).
use mathlib.Core.Path.{◌≡◌, sym, ap, ◌∙◌}
use Prim.Native.Nat.{ℕ, suc, ◌+◌, ◌-◌, ◌*◌, ◌≤◌, ◌<◌}
use native.Mathlib.Numerals.{add-one}
use native.Mathlib.Omega.{arith}
use mathlib.Core.List.{List, [], ◌++◌, append-nil}
use lib.IntN.{ℤ, pos}
use lib.ListN.{length, get_or, set, take, drop, drop_of_length-le}
use lib.Seq.{sets, drop-cons, length-take-le}
use Rattle.format.specs.Keys.{key_bytes, key_at}
use Rattle.format.specs.Answers.{stored}
use Rattle.format.specs.Plain.{plain_body, plain_values}
use Rattle.format.proofs.Codecs.Counts.{length-plain_values}
use Rattle.format.proofs.Numbers.Keys.{length-key_bytes}
use Rattle.format.proofs.Numbers.Stores.{Storing, storing-part, storing-one, sets-stored}

-- ---- the words of a column

pub words-end : (column : List ℤ) (i : ℕ) → length column ≤ i → plain_body (drop i column) ≡ []
unfolding plain_body
words-end column i h = rw (drop_of_length-le column h)

pub word_more :
    (column : List ℤ) {whole l out : List ℕ} {from : ℕ} (at i : ℕ) → Storing whole l from (plain_body (drop i column)) out (at + 8 * i) → i < length column
    → Storing whole l from (plain_body (drop (i + 1) column)) (sets out (at + 8 * i) (key_bytes (get_or column i (pos 0)))) (at + 8 * (i + 1))
unfolding plain_body
word_more column at i s h =
    let v = get_or column i (pos 0) in
    let n : at + 8 * i + 8 ≡ at + 8 * (i + 1) = omega arith in
    let e : plain_body (drop i column) ≡ key_bytes v ++ plain_body (drop (i + 1) column) = rw (add-one i, drop-cons column i (pos 0)) in
    rw (length-key_bytes v, n) at (storing-part s (key_bytes v) (plain_body (drop (i + 1) column)) e)

-- ---- the values of a body

module _ (s : List ℕ) where
  pub values-end : (at n i : ℕ) → n ≤ i → plain_values s at (n - i) ≡ []
  unfolding plain_values
  values-end at n i h = let e : n - i ≡ 0 = omega arith in rw e

  pub value-more :
      (start n i : ℕ) {whole l out : List ℤ} → Storing whole l 0 (plain_values s (start + 8 * i) (n - i)) out i → i < n
      → Storing whole l 0 (plain_values s (start + 8 * (i + 1)) (n - (i + 1))) (set out i (key_at s (start + 8 * i))) (i + 1)
  unfolding plain_values
  value-more start n i t h =
      let e : n - i ≡ suc (n - (i + 1)) = omega arith in
      let p : start + 8 * i + 8 ≡ start + 8 * (i + 1) = omega arith in
      storing-one t (key_at s (start + 8 * i)) (plain_values s (start + 8 * (i + 1)) (n - (i + 1))) (rw (e, p))

-- ---- the front of a column

pub front-filled : (s : List ℕ) (at n : ℕ) (l : List ℤ) {front : List ℤ} → n ≤ length l → front ≡ sets (take n l) 0 (plain_values s at n) → front ++ drop n l ≡ sets l 0 (plain_values s at n)
unfolding stored
front-filled s at n l {front} h e =
    let vs : List ℤ = plain_values s at n in
    let long : length vs ≡ n = length-plain_values s at n in
    let short : length (take n l) ≡ n = length-take-le n l h in
    let all : front ≡ vs =
    e
    ∙ sets-stored vs (take n l) (omega arith)
    ∙ ap (λ (r : List ℤ). vs ++ r) (drop_of_length-le (take n l) {i = length vs} (omega arith))
    ∙ append-nil vs in
    ap (λ (r : List ℤ). r ++ drop n l) all ∙ ap (λ (k : ℕ). vs ++ drop k l) (sym long) ∙ sym (sets-stored vs l (omega arith))
