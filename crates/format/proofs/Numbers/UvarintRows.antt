-- Varints in a row: what was written is read back, one after the other. By induction on the numbers: the first varint is read where it occurs, and the others
-- occur after it.
use mathlib.Core.Path.{◌≡◌, refl, sym, ap, ◌∙◌}
use mathlib.Core.Bool.{true}
use mathlib.Core.List.{List, [], ◌∷◌, ◌++◌}
use Prim.Native.Nat.{ℕ, ◌+◌, ◌^◌, ◌≤◌}
use native.Mathlib.Nat.{add-zero, add_assoc}
use native.Mathlib.Omega.{arith}
use lib.ListN.{length, length-append}
use Rattle.format.specs.Outcome.{ok}
use Rattle.format.specs.Varint.{Uvarint, uvarint_bytes, first_padded, validate_uvarints, uvarint_values, after_uvarints}
use Rattle.format.proofs.Numbers.All.{all_none, all_more, Below}
use Rattle.format.proofs.Numbers.Occurs.{Occurs, occurs-first, occurs-next}
use Rattle.format.proofs.Numbers.Uvarints.{uvarint_bytes-some, read_uvarint-back, uvarint_at-back}
use Rattle.std.specs.Prelude.{Option, Some, None}

-- numbers, each as a varint
unfoldable pub uvarints_bytes : List ℕ → List ℕ
uvarints_bytes [] = []
uvarints_bytes (x ∷ xs) = uvarint_bytes x ++ uvarints_bytes xs

-- a byte at least for each
pub uvarints_bytes-room : (xs : List ℕ) → length xs ≤ length (uvarints_bytes xs)
unfolding uvarints_bytes
uvarints_bytes-room [] = omega arith
uvarints_bytes-room (x ∷ xs) = simp length-append (omega (arith, uvarint_bytes-some x, uvarints_bytes-room xs))

-- a varint that was written is unpadded: it leaves the first padded one as it was
pub first_padded-unpadded : (padded : Option ℕ) (at : ℕ) → first_padded padded at true ≡ padded
first_padded-unpadded None at = refl
first_padded-unpadded (Some a) at = refl

-- the place after the first of them and the others is the place after all
after_first : (at x : ℕ) (xs : List ℕ) → at + length (uvarint_bytes x) + length (uvarints_bytes xs) ≡ at + length (uvarints_bytes (x ∷ xs))
unfolding uvarints_bytes
after_first at x xs = add_assoc at _ _ ∙ ap (λ (n : ℕ). at + n) (sym (length-append (uvarint_bytes x) (uvarints_bytes xs)))

-- READ BACK: numbers below 2^64 that were written in a row pass, and end after the last; the first padded varint stays what it was
pub validate_uvarints-back :
    {s : List ℕ} {at : ℕ} {xs : List ℕ} (padded : Option ℕ) → Below (2 ^ 64) xs → Occurs s at (uvarints_bytes xs)
    → validate_uvarints s at (length xs) padded ≡ ok (record { end = at + length (uvarints_bytes xs); padded = padded })
unfolding uvarints_bytes validate_uvarints
validate_uvarints-back {at} padded all_none o = ap (λ (n : ℕ). ok (record { end = n; padded = padded })) (sym (add-zero at))
validate_uvarints-back {s} {at} padded (all_more {x} {xs} h b) o =
    rw (read_uvarint-back x h (occurs-first (uvarint_bytes x) (uvarints_bytes xs) o), first_padded-unpadded padded at)
    (validate_uvarints-back {at = at + length (uvarint_bytes x)} padded b (occurs-next (uvarint_bytes x) (uvarints_bytes xs) o)
    ∙ ap (λ (n : ℕ). ok (record { end = n; padded = padded })) (after_first at x xs))

-- their values,
pub uvarint_values-back : {s : List ℕ} {at : ℕ} {xs : List ℕ} → Below (2 ^ 64) xs → Occurs s at (uvarints_bytes xs) → uvarint_values s at (length xs) ≡ xs
unfolding uvarints_bytes uvarint_values
uvarint_values-back all_none o = refl
uvarint_values-back {s} {at} (all_more {x} {xs} h b) o =
    rw (uvarint_at-back x h (occurs-first (uvarint_bytes x) (uvarints_bytes xs) o))
    (ap (λ (l : List ℕ). x ∷ l) (uvarint_values-back {at = at + length (uvarint_bytes x)} b (occurs-next (uvarint_bytes x) (uvarints_bytes xs) o)))

-- and the place after them
pub after_uvarints-back :
    {s : List ℕ} {at : ℕ} {xs : List ℕ} → Below (2 ^ 64) xs → Occurs s at (uvarints_bytes xs) → after_uvarints s at (length xs) ≡ at + length (uvarints_bytes xs)
unfolding uvarints_bytes after_uvarints
after_uvarints-back {at} all_none o = sym (add-zero at)
after_uvarints-back {s} {at} (all_more {x} {xs} h b) o =
    ap (λ (v : Uvarint). after_uvarints s v.next (length xs)) (uvarint_at-back x h (occurs-first (uvarint_bytes x) (uvarints_bytes xs) o))
    ∙ after_uvarints-back {at = at + length (uvarint_bytes x)} b (occurs-next (uvarint_bytes x) (uvarints_bytes xs) o)
    ∙ after_first at x xs
