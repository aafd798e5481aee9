-- What the loop that packs keeps: of the number of the values so far, the lowest p bytes are stored and acc is what is above them, of fewer than 64 bits. A value
-- more is added above these bits; once they are 64, the word is stored and acc is what is above it.
use mathlib.Core.Path.{◌≡◌, refl, sym, ap, ap₂, ◌∙◌, subst⁻¹}
use Prim.Native.Nat.{ℕ, ◌+◌, ◌-◌, ◌*◌, ◌/◌, ◌%◌, ◌^◌, ◌≤◌, ◌<◌, zero-le}
use native.Mathlib.Nat.{add-zero, add_comm, zero-mul, suc-mul, mul-zero, mul_assoc, mul_comm, mod-lt, mod-eq_of_lt, lt_of_lt_of_le, div-div-eq-div-mul, add-mul-div_left, zero-lt-suc, one-le-pow, mul-le-mul_right}
use native.Mathlib.Numerals.{add-one, add-one-le}
use native.Mathlib.Omega.{arith}
use mathlib.Core.List.{List, [], ◌∷◌, ◌++◌}
use lib.ListN.{length, get_or, take, drop}
use lib.Seq.{sets, length-sets, take-suc, length-take-le, take-length}
use lib.Arith.{digits_lt}
use lib.Pow.{pow-add, pow_pos, pow_mono, mod-pow-add, shr-shr, shr_lt, high, low}
use lib.Bits.{bit_or, or_shifted_r}
use Rattle.format.specs.Digits.{of_digits, digits}
use Rattle.format.specs.Packing.{packed_len, packed}
use Rattle.format.proofs.Numbers.Digits.{digits-ignore}
use Rattle.format.proofs.Numbers.Places.{pow-256, digits-mod-pow}
use Rattle.bitpack.proofs.Fields.{shl-cut}
use Rattle.bitpack.proofs.Stores.{store-digits}
use Rattle.bitpack.proofs.PackingLaws.{number, number_lt, number_append}

-- ---- the accumulator: A has fewer than `bits` bits, v is to be added above them

module _ (A v bits : ℕ) (h_a : A < 2 ^ bits) (hb : bits < 64) where
  -- the low word of the sum
  or-low : bit_or A (v * 2 ^ bits % 2 ^ 64) ≡ (v * 2 ^ bits + A) % 2 ^ 64
  or-low =
      let k = 64 - bits in
      let e : 64 ≡ k + bits = omega arith in
      ap (λ (x : ℕ). bit_or A (v * 2 ^ bits % 2 ^ x)) e
      ∙ ap (bit_or A) (shl-cut v k bits)
      ∙ or_shifted_r (v % 2 ^ k) bits A h_a
      ∙ sym (ap₂ (λ (x y : ℕ). x % 2 ^ k * 2 ^ bits + y) (high v bits h_a) (low v bits h_a))
      ∙ sym (mod-pow-add (v * 2 ^ bits + A) k bits)
      ∙ ap (λ (x : ℕ). (v * 2 ^ bits + A) % 2 ^ x) (sym e)

  -- what is above the word
  over : v / 2 ^ (63 - bits) / 2 ≡ (v * 2 ^ bits + A) / 2 ^ 64
  over =
      let e : (63 - bits) + 1 ≡ 64 - bits = omega arith in
      let e64 : bits + (64 - bits) ≡ 64 = omega arith in
      shr-shr v (63 - bits) 1
      ∙ ap (λ (x : ℕ). v / 2 ^ x) e
      ∙ ap (λ (x : ℕ). x / 2 ^ (64 - bits)) (sym (high v bits h_a))
      ∙ shr-shr (v * 2 ^ bits + A) bits (64 - bits)
      ∙ ap (λ (x : ℕ). (v * 2 ^ bits + A) / 2 ^ x) e64

-- ---- one value more

number-suc : (w i : ℕ) (vs : List ℕ) → i < length vs → number w (take (i + 1) vs) ≡ number w (take i vs) + 2 ^ (i * w) * (get_or vs i 0 % 2 ^ w)
unfolding number of_digits
number-suc w i vs h =
    let l : i ≤ length vs = omega arith in
    rw (add-one i, take-suc vs i 0 h, number_append w (take i vs) (get_or vs i 0 ∷ []), length-take-le i vs l, mul-zero (2 ^ w), add-zero (get_or vs i 0 % 2 ^ w))

-- ---- the state before value i

pub record State (w : ℕ) (vs out₀ out : List ℕ) (acc bits p i : ℕ) : Type 0 where
  pub more : i ≤ length vs
  pub place : p * 8 + bits ≡ i * w
  pub few : bits < 64
  pub held : acc ≡ number w (take i vs) / 256 ^ p
  pub done : out ≡ digits 256 p (number w (take i vs)) ++ drop p out₀
  pub same : length out ≡ length out₀

pub start : (w : ℕ) (vs out₀ : List ℕ) → State w vs out₀ out₀ 0 0 0 0
unfolding number of_digits digits
start w vs out₀ = record { more = zero-le; place = sym (zero-mul w); few = zero-lt-suc 63; held = refl; done = refl; same = refl }

module _ {w : ℕ} {vs out₀ out : List ℕ} {acc bits p i : ℕ} (st : State w vs out₀ out acc bits p i) where
  acc_lt : acc < 2 ^ bits
  acc_lt =
      let e : length (take i vs) * w ≡ bits + p * 8 = ap (λ (k : ℕ). k * w) (length-take-le i vs st.more) ∙ sym st.place ∙ add_comm (p * 8) bits in
      rw (st.held, pow-256 p) (shr_lt bits (p * 8) (rw e at (number_lt w (take i vs))))

  module _ {v : ℕ} (ev : v ≡ get_or vs i 0 % 2 ^ w) (h : i < length vs) where
    -- the next number: v above the bits so far
    next : number w (take (i + 1) vs) ≡ number w (take i vs) + 256 ^ p * (v * 2 ^ bits)
    next =
        let e : 2 ^ (i * w) ≡ 256 ^ p * 2 ^ bits = rw (← st.place, pow-256 p) (pow-add 2 (p * 8) bits) in
        rw (number-suc w i vs h, e, ← ev, mul_assoc (256 ^ p) (2 ^ bits) v, mul_comm (2 ^ bits) v)

    -- above the bytes that are stored,
    rest : number w (take (i + 1) vs) / 256 ^ p ≡ v * 2 ^ bits + acc
    rest =
        rw (next, add-mul-div_left (number w (take i vs)) (v * 2 ^ bits) (one-le-pow p 256 (zero-lt-suc 255)), ← st.held) (add_comm acc (v * 2 ^ bits))

    -- which are the same
    front : out ≡ digits 256 p (number w (take (i + 1) vs)) ++ drop p out₀
    front = rw (next, digits-ignore 256 p (number w (take i vs)) (v * 2 ^ bits) (zero-lt-suc 255)) st.done

    place' : (i + 1) * w ≡ p * 8 + (bits + w)
    place' = omega (arith, st.place, ap (λ (k : ℕ). k * w) (add-one i) ∙ suc-mul i w)

    -- the value fits beside what is held
    pub keep : bits + w < 64 → State w vs out₀ out (bit_or acc (v * 2 ^ bits % 2 ^ 64)) (bits + w) p (i + 1)
    keep hw =
        let fits : v * 2 ^ bits + acc < 2 ^ (w + bits)
        = rw (pow-add 2 w bits) (digits_lt (subst⁻¹ (λ (k : ℕ). k < 2 ^ w) ev (mod-lt (get_or vs i 0) (pow_pos w))) acc_lt) in
        let short : w + bits ≤ 64 = omega arith in
        record {
          more = omega arith;
          place = sym place';
          few = hw;
          held = or-low acc v bits acc_lt st.few ∙ mod-eq_of_lt (lt_of_lt_of_le fits (pow_mono short)) ∙ sym rest;
          done = front;
          same = st.same;
        }

    module _ (hw : 64 ≤ bits + w) (room : packed_len (length vs) w ≤ length out₀) where
      -- a word is full, and there is room for it
      pub word_room : p + 8 ≤ length out₀
      unfolding packed_len
      word_room = omega (arith, place', mul-le-mul_right w (add-one-le h))

      -- it is stored
      pub store : w ≤ 64 → {out' : List ℕ} → out' ≡ sets out p (digits 256 8 (bit_or acc (v * 2 ^ bits % 2 ^ 64)))
          → State w vs out₀ out' (v / 2 ^ (63 - bits) / 2) (bits + w - 64) (p + 8) (i + 1)
      store w64 eo =
          let X = number w (take (i + 1) vs) in
          let word : digits 256 8 (bit_or acc (v * 2 ^ bits % 2 ^ 64)) ≡ digits 256 8 (X / 256 ^ p)
          = rw (or-low acc v bits acc_lt st.few, rest) (digits-mod-pow 256 8 (v * 2 ^ bits + acc) (zero-lt-suc 255)) in
          record {
            more = omega arith;
            place = omega (arith, place');
            few = omega (arith, st.few);
            held = rw (over acc v bits acc_lt st.few, ← rest, pow-add 256 p 8) (div-div-eq-div-mul X (256 ^ p) (256 ^ 8));
            done = eo ∙ ap₂ (λ (a b : List ℕ). sets a p b) front word ∙ store-digits X p 8 out₀ word_room;
            same = ap length eo ∙ length-sets out p (digits 256 8 (bit_or acc (v * 2 ^ bits % 2 ^ 64))) ∙ st.same;
          }

  -- after the last value: the length, and the bytes that are left
  module _ (e : i ≡ length vs) where
    pub whole-len : packed_len (length vs) w ≡ p + (bits + 7) / 8
    unfolding packed_len
    whole-len = omega (arith, st.place, ap (λ (k : ℕ). k * w) e)

    pub finish : packed_len (length vs) w ≤ length out₀ → {out' : List ℕ} → out' ≡ sets out p (digits 256 ((bits + 7) / 8) acc)
        → out' ≡ packed w vs ++ drop (packed_len (length vs) w) out₀
    unfolding packed number
    finish room eo =
        let t = (bits + 7) / 8 in
        let Y = number w vs in
        let e_x : number w (take i vs) ≡ Y = rw (e, take-length vs) in
        let fits : p + t ≤ length out₀ = omega (arith, whole-len) in
        eo
        ∙ ap₂ (λ (a b : List ℕ). sets a p b) (rw e_x at st.done) (ap (digits 256 t) (rw e_x at st.held))
        ∙ store-digits Y p t out₀ fits
        ∙ ap (λ (k : ℕ). digits 256 k Y ++ drop k out₀) (sym whole-len)
