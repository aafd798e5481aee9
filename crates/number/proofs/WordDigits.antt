-- The eight bytes of a word are its digits in base 256: the library's sum of bytes, and its bytes of a number.
use Rattle.std.proofs.Common.{◌≡◌, ℕ, ◌+◌, ◌-◌, ◌≤◌, ◌*◌, ◌<◌, min, List, [], ◌∷◌, ◌++◌, length, take, drop, refl, sym, ap, ◌∙◌, arith, length-drop, w64}
use mathlib.Core.List.{append_assoc}
use native.Mathlib.Decide.{dec_le}
use native.Mathlib.Nat.{div-div-eq-div-mul}
use lib.ListN.{get_or, drop_of_length-le}
use lib.Seq.{sets, sets-eq, take_all}
use borrow.Rule.Slice.PartMut.{put_mid, Post-is}
use Rattle.std.specs.Int.{from_le_bytes, to_le_bytes}
use Rattle.format.specs.Digits.{of_digits, digits}

pub word_digits : (bytes : List ℕ) → length bytes ≡ 8 → from_le_bytes w64 bytes ≡ of_digits 256 bytes
unfolding of_digits
word_digits (a ∷ b ∷ c ∷ d ∷ e ∷ f ∷ g ∷ h ∷ []) l = omega arith
word_digits [] l = absurd (omega arith)
word_digits (a ∷ []) l = absurd (omega arith)
word_digits (a ∷ b ∷ []) l = absurd (omega arith)
word_digits (a ∷ b ∷ c ∷ []) l = absurd (omega arith)
word_digits (a ∷ b ∷ c ∷ d ∷ []) l = absurd (omega arith)
word_digits (a ∷ b ∷ c ∷ d ∷ e ∷ []) l = absurd (omega arith)
word_digits (a ∷ b ∷ c ∷ d ∷ e ∷ f ∷ []) l = absurd (omega arith)
word_digits (a ∷ b ∷ c ∷ d ∷ e ∷ f ∷ g ∷ []) l = absurd (omega arith)
word_digits (a ∷ b ∷ c ∷ d ∷ e ∷ f ∷ g ∷ h ∷ i ∷ rest) l = absurd (omega arith)

pub word_bytes : (x : ℕ) → to_le_bytes w64 x ≡ digits 256 8 x
unfolding digits
word_bytes x = simp div-div-eq-div-mul

-- a word that is copied from an array of eight bytes out of a slice
pub word_loaded : (s : List ℕ) (at : ℕ) {eight : List ℕ} {word : ℕ} → at + 8 ≤ length s → length eight ≡ 8
    → eight ≡ take (at + 8 - at) (drop at s) → word ≡ from_le_bytes w64 eight → word ≡ of_digits 256 (take 8 (drop at s))
word_loaded s at {eight} room long e w =
    let n : at + 8 - at ≡ 8 = omega arith in
    w ∙ word_digits eight long ∙ ap (of_digits 256) (e ∙ ap (λ (k : ℕ). take k (drop at s)) n)

-- bytes that are copied to a part of a slice are stored there one after the other
pub part_stored : {A : Type 0} (at end : ℕ) (l part : List A) → at ≤ end → end ≤ length l → length part ≡ end - at
    → put_mid at (end - at) l part ≡ sets l at part
part_stored {A} at end l part h k e =
    let n : end ≡ at + length part = omega arith in
    ap (λ (r : List A). take at l ++ (part ++ r)) (Post-is at end l h ∙ ap (λ (i : ℕ). drop i l) n) ∙ sym (sets-eq part l at (omega arith) ∙ append_assoc (take at l) part (drop (at + length part) l))

pub word_stored : (at : ℕ) (l : List ℕ) (x : ℕ) {eight part : List ℕ} → at + 8 ≤ length l → eight ≡ to_le_bytes w64 x → part ≡ eight
    → put_mid at (at + 8 - at) l part ≡ sets l at (digits 256 8 x)
word_stored at l x {eight} {part} h e p =
    let long : length part ≡ at + 8 - at = omega (arith, ap length (p ∙ e)) in
    part_stored at (at + 8) l part (omega arith) h long ∙ ap (sets l at) (p ∙ e ∙ word_bytes x)

-- fewer than eight bytes, and zeros
padded_digits : (l : List ℕ) → length l < 8
    → get_or l 0 0 + get_or l 1 0 * 256 + get_or l 2 0 * 65536 + get_or l 3 0 * 16777216 + get_or l 4 0 * 4294967296 + get_or l 5 0 * 1099511627776
    + get_or l 6 0 * 281474976710656
    ≡ of_digits 256 l
unfolding of_digits
padded_digits [] h = refl
padded_digits (a ∷ []) h = omega arith
padded_digits (a ∷ b ∷ []) h = omega arith
padded_digits (a ∷ b ∷ c ∷ []) h = omega arith
padded_digits (a ∷ b ∷ c ∷ d ∷ []) h = omega arith
padded_digits (a ∷ b ∷ c ∷ d ∷ e ∷ []) h = omega arith
padded_digits (a ∷ b ∷ c ∷ d ∷ e ∷ f ∷ []) h = omega arith
padded_digits (a ∷ b ∷ c ∷ d ∷ e ∷ f ∷ g ∷ []) h = omega arith
padded_digits (a ∷ b ∷ c ∷ d ∷ e ∷ f ∷ g ∷ i ∷ rest) h = absurd (omega arith)

-- what is left from a place on, or from the end
part-whole : (s : List ℕ) (at : ℕ) {k : ℕ} → k ≡ min at (length s) → take (length s - k) (drop k s) ≡ drop at s
part-whole s at {k} e = go (dec_le at (length s))
  where
    all : take (length s - k) (drop k s) ≡ drop k s
    all = take_all (length s - k) (drop k s) (omega (arith, length-drop k s))

    go : Dec (at ≤ length s) → take (length s - k) (drop k s) ≡ drop at s
    go (yes h) = let same : k ≡ at = omega arith in all ∙ ap (λ (i : ℕ). drop i s) same
    go (no h) =
        let past : length s ≤ at = omega arith in
        let end : length s ≤ k = omega arith in
        all ∙ drop_of_length-le s end ∙ sym (drop_of_length-le s past)

-- fewer than eight bytes that are left
pub word_padded : (s : List ℕ) (at : ℕ) {k word : ℕ} → k ≡ min at (length s)
    → let rest = take (length s - k) (drop k s) in
    length rest < 8
    → word
    ≡ get_or rest 0 0 + get_or rest 1 0 * 256 + get_or rest 2 0 * 65536 + get_or rest 3 0 * 16777216 + get_or rest 4 0 * 4294967296
    + get_or rest 5 0 * 1099511627776
    + get_or rest 6 0 * 281474976710656
    → word ≡ of_digits 256 (take 8 (drop at s))
word_padded s at {k} e h w =
    let rest : List ℕ = take (length s - k) (drop k s) in
    let last = part-whole s at e in
    let few : length (drop at s) ≤ 8 = omega (arith, ap length last) in
    w ∙ padded_digits rest h ∙ ap (of_digits 256) (last ∙ sym (take_all 8 (drop at s) few))
