-- The order of keys, and gaps, ZigZags and signed varints' lengths along it. A key's height above the least key, a natural number, has the same order and the
-- same differences, so what is claimed of gaps is arithmetic of heights.
use mathlib.Core.Path.{◌≡◌, refl, sym, ap, ◌∙◌, subst}
use mathlib.Core.Bool.{Bool, true, false, cond}
use Prim.Native.Nat.{ℕ, suc, ◌+◌, ◌-◌, ◌*◌, ◌%◌, ◌^◌, ◌≤◌, ◌<◌, max}
use native.Mathlib.Nat.{le_trans, le_antisymm, le_of_lt, le-max_left, le-max_right, le_refl}
use native.Mathlib.Decide.{dec_le}
use native.Mathlib.Omega.{arith}
use borrow.Author.Tests.{lt-ltb, le-ltb, ltb-true, eqb-true}
use lib.IntN.{ℤ, pos, negsuc, ◌-ℤ◌, -ℤ-+ℤ_cancel}
use lib.Dec.{T, leb→le, le→leb, ltb→lt}
use lib.Signed.{lt_z, le_z, ◌≤ℤ◌, lt_z_no, ≤ℤ_refl}
use Rattle.format.specs.Keys.{residue, gap, zigzag, lesser, greater, Key, eq_z}
use Rattle.format.specs.Varint.{uvarint_len, varint_len}
use Rattle.format.proofs.Numbers.Widths.{uvarint_len-mono}
use Rattle.format.proofs.Numbers.Keys.{residue-lt, residue-add, gap-lt, zigzag-lt}

-- ---- the order

-- a key is the lesser and the greater of itself
chosen : (t : Bool) (v : ℤ) → cond t v v ≡ v
chosen true v = refl
chosen false v = refl

pub lesser-same : (v : ℤ) → lesser v v ≡ v
unfolding lesser
lesser-same v = chosen (lt_z v v) v

pub greater-same : (v : ℤ) → greater v v ≡ v
unfolding greater
greater-same v = chosen (lt_z v v) v

-- a test as the order, and back
pub le_z-le : (a b : ℤ) → le_z a b ≡ true → a ≤ℤ b
le_z-le a b e = record { le = subst T (sym e) tt }

pub le-le_z : (a b : ℤ) → a ≤ℤ b → le_z a b ≡ true
le-le_z a b h = go (le_z a b) h.le
  where
    go : (t : Bool) → T t → t ≡ true
    go true u = refl
    go false u = absurd u

pub lt_z-le : (a b : ℤ) → lt_z a b ≡ true → a ≤ℤ b
lt_z-le a b e = record { le = go a b (subst T (sym e) tt) }
  where
    go : (a b : ℤ) → T (lt_z a b) → T (le_z a b)
    go (pos a) (pos b) t = le→leb a b (le_of_lt (ltb→lt a b t))
    go (pos a) (negsuc b) t = t
    go (negsuc a) (pos b) t = t
    go (negsuc a) (negsuc b) t = le→leb b a (le_of_lt (ltb→lt b a t))

pub lt_z-not : (a b : ℤ) → lt_z a b ≡ false → b ≤ℤ a
lt_z-not a b e = lt_z_no {a = a} {b = b} (rw e tt)

pub ≤ℤ-trans : {a b c : ℤ} → a ≤ℤ b → b ≤ℤ c → a ≤ℤ c
≤ℤ-trans {a} {b} {c} h k = record { le = go a b c h.le k.le }
  where
    go : (a b c : ℤ) → T (le_z a b) → T (le_z b c) → T (le_z a c)
    go (pos a) (pos b) (pos c) t u = le→leb a c (le_trans (leb→le a b t) (leb→le b c u))
    go (pos a) (pos b) (negsuc c) t u = u
    go (pos a) (negsuc b) c t u = absurd t
    go (negsuc a) (pos b) (pos c) t u = tt
    go (negsuc a) (pos b) (negsuc c) t u = absurd u
    go (negsuc a) (negsuc b) (pos c) t u = tt
    go (negsuc a) (negsuc b) (negsuc c) t u = le→leb c a (le_trans (leb→le c b u) (leb→le b a t))

pub ≤ℤ-antisymm : (a b : ℤ) → a ≤ℤ b → b ≤ℤ a → a ≡ b
≤ℤ-antisymm (pos a) (pos b) h k = ap pos (le_antisymm (leb→le a b h.le) (leb→le b a k.le))
≤ℤ-antisymm (pos a) (negsuc b) h k = absurd h.le
≤ℤ-antisymm (negsuc a) (pos b) h k = absurd k.le
≤ℤ-antisymm (negsuc a) (negsuc b) h k = ap negsuc (le_antisymm (leb→le a b k.le) (leb→le b a h.le))

-- no key is less than itself
pub lt_z-self : (a : ℤ) → lt_z a a ≡ false
lt_z-self (pos a) = le-ltb a a (le_refl a)
lt_z-self (negsuc a) = le-ltb a a (le_refl a)

-- less than a lesser
pub lt_z-trans : (a b c : ℤ) → lt_z a b ≡ true → lt_z b c ≡ true → lt_z a c ≡ true
lt_z-trans (pos a) (pos b) (pos c) h k = lt-ltb a c (omega (arith, ltb-true a b h, ltb-true b c k))
lt_z-trans (pos a) (pos b) (negsuc c) h k = k
lt_z-trans (pos a) (negsuc b) (pos c) h k = cc
lt_z-trans (pos a) (negsuc b) (negsuc c) h k = h
lt_z-trans (negsuc a) (pos b) (pos c) h k = refl
lt_z-trans (negsuc a) (pos b) (negsuc c) h k = cc
lt_z-trans (negsuc a) (negsuc b) (pos c) h k = refl
lt_z-trans (negsuc a) (negsuc b) (negsuc c) h k = lt-ltb c a (omega (arith, ltb-true b a h, ltb-true c b k))

-- neither is less: the same
pub lt_z-neither : (a b : ℤ) → lt_z a b ≡ false → lt_z b a ≡ false → a ≡ b
lt_z-neither a b h k = ≤ℤ-antisymm a b (lt_z-not b a k) (lt_z-not a b h)

-- keys that the test finds the same are the same
pub eq_z-true : (a b : ℤ) → eq_z a b ≡ true → a ≡ b
eq_z-true (pos a) (pos b) e = ap pos (eqb-true a b e)
eq_z-true (pos a) (negsuc b) e = cc
eq_z-true (negsuc a) (pos b) e = cc
eq_z-true (negsuc a) (negsuc b) e = ap negsuc (eqb-true a b e)

-- ---- the lesser and the greater of two

module _ (a b : ℤ) where
  pub lesser-left : lesser a b ≤ℤ a
  unfolding lesser
  lesser-left = go (lt_z b a) refl
    where
      go : (t : Bool) → lt_z b a ≡ t → cond t b a ≤ℤ a
      go true e = lt_z-le b a e
      go false e = ≤ℤ_refl a

  pub lesser-right : lesser a b ≤ℤ b
  unfolding lesser
  lesser-right = go (lt_z b a) refl
    where
      go : (t : Bool) → lt_z b a ≡ t → cond t b a ≤ℤ b
      go true e = ≤ℤ_refl b
      go false e = lt_z-not b a e

  pub greater-left : a ≤ℤ greater a b
  unfolding greater
  greater-left = go (lt_z a b) refl
    where
      go : (t : Bool) → lt_z a b ≡ t → a ≤ℤ cond t b a
      go true e = lt_z-le a b e
      go false e = ≤ℤ_refl a

  pub greater-right : b ≤ℤ greater a b
  unfolding greater
  greater-right = go (lt_z a b) refl
    where
      go : (t : Bool) → lt_z a b ≡ t → b ≤ℤ cond t b a
      go true e = ≤ℤ_refl b
      go false e = lt_z-not a b e

  -- each is one of the two
  pub lesser-has : (P : ℤ → Type 0) → P a → P b → P (lesser a b)
  unfolding lesser
  lesser-has P p q = go (lt_z b a)
    where
      go : (t : Bool) → P (cond t b a)
      go true = q
      go false = p

  pub greater-has : (P : ℤ → Type 0) → P a → P b → P (greater a b)
  unfolding greater
  greater-has P p q = go (lt_z a b)
    where
      go : (t : Bool) → P (cond t b a)
      go true = q
      go false = p

-- ---- gaps

-- how far a key stands above -2^63: an order, and differences, that omega reads
unfoldable pub height : ℤ → ℕ
height (pos n) = 2 ^ 63 + n
height (negsuc n) = 2 ^ 63 - suc n

-- the order, by heights
pub height-mono : (a b : ℤ) → a ≤ℤ b → height a ≤ height b
unfolding height
height-mono (pos a) (pos b) h = let k = leb→le a b h.le in omega arith
height-mono (pos a) (negsuc b) h = absurd h.le
height-mono (negsuc a) (pos b) h = omega arith
height-mono (negsuc a) (negsuc b) h = let k = leb→le b a h.le in omega arith

-- a key's height is below 2^64
pub height-lt : (a : ℤ) → Key a → height a < 2 ^ 64
unfolding height
height-lt (pos n) h = omega arith
height-lt (negsuc n) h = omega arith

-- a key's height against its residue
height-residue : (a : ℤ) → Key a → (residue a + 2 ^ 63) % 2 ^ 64 ≡ height a
unfolding height
height-residue (pos n) h = omega arith
height-residue (negsuc n) h = omega arith

-- a and the gap make b, modulo 2^64
pub gap-add : (a b : ℤ) → (gap a b + residue a) % 2 ^ 64 ≡ residue b
unfolding gap
gap-add a b = sym (residue-add (b -ℤ a) a) ∙ ap residue (-ℤ-+ℤ_cancel b a)

-- for keys a ≤ b the gap is the natural difference
pub gap_is : (a b : ℤ) → Key a → Key b → a ≤ℤ b → height a + gap a b ≡ height b
gap_is a b ka kb h =
    omega (arith, gap-add a b, gap-lt a b, height-residue a ka, height-residue b kb, height-mono a b h, residue-lt a, residue-lt b, height-lt a ka, height-lt b kb)

module _ (a b c : ℤ) (ka : Key a) (kb : Key b) (kc : Key c) (h : a ≤ℤ b) (k : b ≤ℤ c) where
  -- gaps add up
  pub gap-sum : gap a b + gap b c ≡ gap a c
  gap-sum = omega (arith, gap_is a b ka kb h, gap_is b c kb kc k, gap_is a c ka kc (≤ℤ-trans h k))

  -- a gap grows with its upper end, and with its lower end going down
  pub gap-upper : gap a b ≤ gap a c
  gap-upper = omega (arith, gap-sum)

  pub gap-lower : gap b c ≤ gap a c
  gap-lower = omega (arith, gap-sum)

-- a gap inside another: lo ≤ a ≤ b ≤ hi
pub gap-inside : (lo a b hi : ℤ) → Key lo → Key a → Key b → Key hi → lo ≤ℤ a → a ≤ℤ b → b ≤ℤ hi → gap a b ≤ gap lo hi
gap-inside lo a b hi kl ka kb kh p q r = le_trans (gap-upper a b hi ka kb kh q r) (gap-lower lo a hi kl ka kh p (≤ℤ-trans q r))

-- ---- ZigZags

-- above 0 it grows with the key, below 0 it falls
pub zigzag-between : (lo d hi : ℤ) → lo ≤ℤ d → d ≤ℤ hi → zigzag d ≤ max (zigzag lo) (zigzag hi)
zigzag-between lo (pos d) (pos b) h k = let l = leb→le d b k.le in le_trans (omega arith) (le-max_right (zigzag lo) (2 * b))
zigzag-between lo (pos d) (negsuc b) h k = absurd k.le
zigzag-between (pos a) (negsuc d) hi h k = absurd h.le
zigzag-between (negsuc a) (negsuc d) hi h k = let l = leb→le d a h.le in le_trans (omega arith) (le-max_left (2 * a + 1) (zigzag hi))

-- a function that is monotone below a bound, at the greater of two numbers
max-mono : (f : ℕ → ℕ) (m : ℕ) → ((x y : ℕ) → x ≤ y → y < m → f x ≤ f y) → (x y z : ℕ) → y < m → z < m → x ≤ max y z → f x ≤ max (f y) (f z)
max-mono f m g x y z p q h = go (dec_le y z)
  where
    go : Dec (y ≤ z) → f x ≤ max (f y) (f z)
    go (yes k) = let l : x ≤ z = omega arith in le_trans (g x z l q) (le-max_right (f y) (f z))
    go (no k) = let l : x ≤ y = omega arith in le_trans (g x y l p) (le-max_left (f y) (f z))

-- between two keys no signed varint is longer than the longer of theirs
pub varint_len-between : (lo d hi : ℤ) → Key lo → Key hi → lo ≤ℤ d → d ≤ℤ hi → varint_len d ≤ max (varint_len lo) (varint_len hi)
unfolding varint_len
varint_len-between lo d hi kl kh h k =
    max-mono uvarint_len (2 ^ 64) uvarint_len-mono (zigzag d) (zigzag lo) (zigzag hi) (zigzag-lt lo kl) (zigzag-lt hi kh) (zigzag-between lo d hi h k)
