-- What the two loops that unpack keep: the first i values of a number are at the front of a part of the buffer, and the rest of it is untouched. Value i is the
-- next digit in base 2 ^ w, so a turn that stores it keeps this.
use mathlib.Core.Path.{◌≡◌, refl, sym, ap, ap₂, ◌∙◌}
use Prim.Native.Nat.{ℕ, ◌+◌, ◌-◌, ◌*◌, ◌/◌, ◌%◌, ◌^◌, ◌≤◌, ◌<◌}
use native.Mathlib.Decide.{dec_le}
use native.Mathlib.Nat.{add-mul, mod-eq_of_lt, pow-le-pow_right, zero-lt-suc}
use native.Mathlib.Omega.{arith}
use mathlib.Core.List.{List, [], ◌∷◌, ◌++◌, append-nil}
use borrow.Rule.Slice.PartMut.{put_mid}
use lib.ListN.{length, set, take, drop, length-append, length-drop, length-set, drop_of_length-le}
use lib.Pow.{shr-shr}
use lib.Seq.{length-take-le, take_all, take_at}
use Rattle.format.specs.Digits.{of_digits, digits}
use Rattle.format.proofs.Numbers.All.{Below, all_drop}
use Rattle.format.proofs.Numbers.Digits.{length_digits, of_digits-lt}
use Rattle.format.proofs.Numbers.Places.{pow-pow, digits-add, of_digits-drop, of_digits-take}
use Rattle.bitpack.specs.Loads.{Within}
use Rattle.bitpack.proofs.Parts.{part-rest, part-back}
use Rattle.bitpack.proofs.Stores.{fill_step}

-- the number N holds them
pub record Filled (w N : ℕ) (out₀ out : List ℕ) (i : ℕ) : Type 0 where
  pub same : length out ≡ length out₀
  pub front : out ≡ digits (2 ^ w) i N ++ drop i out₀

-- one value more
digits-suc : (w N i : ℕ) → digits (2 ^ w) (i + 1) N ≡ digits (2 ^ w) i N ++ (N / 2 ^ (i * w) % 2 ^ w ∷ [])
unfolding digits
digits-suc w N i = rw (digits-add (2 ^ w) i 1 N, pow-pow 2 w i)

module _ {w N : ℕ} where
  pub none : {out : List ℕ} → Filled w N out out 0
  unfolding digits
  none = record { same = refl; front = refl }

  module _ {out₀ out : List ℕ} {i : ℕ} (f : Filled w N out₀ out i) where
    pub more : {v : ℕ} → v ≡ N / 2 ^ (i * w) % 2 ^ w → i < length out₀ → Filled w N out₀ (set out i v) (i + 1)
    more {v} ev h =
        record {
          same = length-set out i v ∙ f.same;
          front =
              ap₂ (λ (o : List ℕ) (x : ℕ). set o i x) f.front ev
              ∙ fill_step (digits (2 ^ w) i N) out₀ i (length_digits (2 ^ w) i N) (N / 2 ^ (i * w) % 2 ^ w) h
              ∙ ap (λ (l : List ℕ). l ++ drop (i + 1) out₀) (sym (digits-suc w N i));
        }

    -- all values
    pub filled_all : {n : ℕ} → length out₀ ≡ n → i ≡ n → out ≡ digits (2 ^ w) n N
    filled_all {n} long e =
        let all : Filled w N out₀ out n = rw e at f in
        all.front ∙ ap (λ (l : List ℕ). digits (2 ^ w) n N ++ l) (drop_of_length-le out₀ (omega arith)) ∙ append-nil (digits (2 ^ w) n N)

-- ---- the values from the k-th on, in the part of the buffer from there on

module _ (w N k : ℕ) where
  pub later_value : (i : ℕ) → N / 2 ^ ((k + i) * w) % 2 ^ w ≡ N / 2 ^ (k * w) / 2 ^ (i * w) % 2 ^ w
  later_value i = rw (add-mul k i w, shr-shr N (k * w) (i * w)) refl

  module _ (out : List ℕ) {words : List ℕ} (room : k ≤ length out) (first : words ≡ digits (2 ^ w) (length (take k out)) N) where
    e : words ≡ digits (2 ^ w) k N
    e = first ∙ ap (λ (n : ℕ). digits (2 ^ w) n N) (length-take-le k out room)

    many : length words ≡ k
    many = ap length e ∙ length_digits (2 ^ w) k N

    long : length (words ++ drop k out) ≡ length out
    long = omega (arith, length-append words (drop k out), length-drop k out, many)

    pub later_long : length (take (length (words ++ drop k out) - k) (drop k (words ++ drop k out))) ≡ length out - k
    later_long = omega (arith, ap length (part-rest k (words ++ drop k out)), length-drop k (words ++ drop k out), long)

    -- both parts together
    pub values_whole : {items : List ℕ} → items ≡ digits (2 ^ w) (length out - k) (N / 2 ^ (k * w))
        → put_mid k (length (words ++ drop k out) - k) (words ++ drop k out) items ≡ digits (2 ^ w) (length out) N
    values_whole {items} rest =
        let n : k + (length out - k) ≡ length out = omega arith in
        part-back k (words ++ drop k out) items (omega (arith, long))
        ∙ ap₂ (λ (a b : List ℕ). a ++ b) (take_at words (drop k out) k many ∙ e) (rest ∙ ap (λ (p : ℕ). digits (2 ^ w) (length out - k) (N / p)) (sym (pow-pow 2 w k)))
        ∙ sym (digits-add (2 ^ w) k (length out - k) N)
        ∙ ap (λ (m : ℕ). digits (2 ^ w) m N) n

-- ---- the word of value i, where k values have theirs inside

-- eight bytes from a place on, or those that are there, are a part of the number that the bytes make
pub word_part : {s : List ℕ} (p : ℕ) {x : ℕ} → Below 256 s → x ≡ of_digits 256 (take 8 (drop p s)) → x ≡ of_digits 256 s / 256 ^ p % 2 ^ 64
word_part {s} p h e = e ∙ front (all_drop p h) ∙ ap (λ (n : ℕ). n % 2 ^ 64) (of_digits-drop p h)
  where
    front : {l : List ℕ} → Below 256 l → of_digits 256 (take 8 l) ≡ of_digits 256 l % 2 ^ 64
    front {l} b = go (dec_le 8 (length l))
      where
        go : Dec (8 ≤ length l) → of_digits 256 (take 8 l) ≡ of_digits 256 l % 2 ^ 64
        go (yes long) = of_digits-take 8 b long
        go (no short) =
            let few : length l ≤ 8 = omega arith in
            let small : of_digits 256 l < 2 ^ 64 = omega (arith, of_digits-lt b, pow-le-pow_right (zero-lt-suc 255) few) in
            ap (of_digits 256) (take_all 8 l (omega arith)) ∙ sym (mod-eq_of_lt small)

-- in words that begin at the byte of a value's first bit
pub word_inside : {len w k i : ℕ} → Within len w k k → i < k → (i * w % 8 + w ≤ 64) × (k * w + 64 ≤ len * 8)
word_inside {i = i} h lt = let there = h.inside (omega arith) in (there.0 i, there.1)
