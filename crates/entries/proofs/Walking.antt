-- The varints of the entries' numbers are the entries' bytes, and as long; a walk has those that are to come left.
use mathlib.Core.Path.{◌≡◌, refl, ap, ◌∙◌}
use mathlib.Core.List.{List, [], ◌∷◌, ◌++◌}
use Prim.Native.Nat.{ℕ, ◌+◌, ◌<◌, ◌≤◌}
use native.Mathlib.Omega.{arith}
use lib.IntN.{ℤ}
use lib.ListN.{length}
use Rattle.format.specs.Keys.{gap, zigzag}
use Rattle.format.specs.Varint.{uvarint_len, varint_len, uvarint_bytes, varint_bytes}
use Rattle.format.specs.Dictionary.{gap_bytes, entry_bytes}
use Rattle.format.specs.Estimates.{gaps_len, entries_len}
use Rattle.format.specs.Encodings.{max_dictionary_cardinality}
use Rattle.format.proofs.Lengths.Limits.{entries_len-most}
use Rattle.entries.specs.Numbers.{numbers_after, numbers}
use Rattle.entries.specs.Gaps.{to_come}
use Rattle.entries.specs.declared.gap.Gaps.{Gaps}

-- the bytes of varints in a row
unfoldable pub bytes_of : List ℕ → List ℕ
bytes_of [] = []
bytes_of (n ∷ ns) = uvarint_bytes n ++ bytes_of ns

-- how many they are
unfoldable pub len_of : List ℕ → ℕ
len_of [] = 0
len_of (n ∷ ns) = uvarint_len n + len_of ns

bytes-after : (last : ℤ) (es : List ℤ) → bytes_of (numbers_after last es) ≡ gap_bytes last es
unfolding numbers_after bytes_of gap_bytes
bytes-after last [] = refl
bytes-after last (e ∷ es) = ap (λ (r : List ℕ). uvarint_bytes (gap last e) ++ r) (bytes-after e es)

pub bytes-numbers : (es : List ℤ) → bytes_of (numbers es) ≡ entry_bytes es
unfolding numbers numbers_after bytes_of entry_bytes varint_bytes
bytes-numbers [] = refl
bytes-numbers (e ∷ es) = ap (λ (r : List ℕ). uvarint_bytes (zigzag e) ++ r) (bytes-after e es)

len-after : (last : ℤ) (es : List ℤ) → len_of (numbers_after last es) ≡ gaps_len last es
unfolding numbers_after len_of gaps_len
len-after last [] = refl
len-after last (e ∷ es) = ap (λ (n : ℕ). uvarint_len (gap last e) + n) (len-after e es)

pub len-numbers : (es : List ℤ) → len_of (numbers es) ≡ entries_len es
unfolding numbers numbers_after len_of entries_len varint_len
len-numbers [] = refl
len-numbers (e ∷ es) = ap (λ (n : ℕ). uvarint_len (zigzag e) + n) (len-after e es)

-- ---- the walk

-- none is left
pub none_left : (g : Gaps) → length g.rest.now ≡ 0 → to_come g ≡ []
unfolding to_come numbers_after
none_left g h = go g.rest.now h
  where
    go : (es : List ℤ) → length es ≡ 0 → numbers_after g.last es ≡ []
    go [] h = refl
    go (e ∷ es) h = absurd (omega (arith, h))

-- one is taken
module _ (g rest : Gaps) {e : ℤ} {n : ℕ} where
  pub first_taken : g.rest.now ≡ e ∷ rest.rest.now → rest.last ≡ e → n ≡ gap g.last rest.last → to_come g ≡ n ∷ to_come rest
  unfolding to_come numbers_after
  first_taken first last number = rw (first, number, last) refl

  pub fewer : g.rest.now ≡ e ∷ rest.rest.now → rest.last ≡ e → n ≡ gap g.last rest.last → length (to_come rest) < length (to_come g)
  fewer first last number = omega (arith, ap length (first_taken first last number))

-- ---- measured

-- at most ten bytes each
pub entries_most : (entries : List ℤ) → length entries ≤ max_dictionary_cardinality → entries_len entries ≤ 163840
entries_most entries h = omega (arith, entries_len-most entries, h)

-- the bytes of all entries, before a walk, of which a varint more was taken, and of which none is left
pub len_begun : (g : Gaps) (entries : List ℤ) → to_come g ≡ numbers entries → len_of (to_come g) ≡ entries_len entries
len_begun g entries e = ap len_of e ∙ len-numbers entries

pub len_next : (g rest : Gaps) {n : ℕ} → to_come g ≡ n ∷ to_come rest → len_of (to_come g) ≡ uvarint_len n + len_of (to_come rest)
unfolding len_of
len_next g rest e = ap len_of e

pub len_end : (g : Gaps) → to_come g ≡ [] → len_of (to_come g) ≡ 0
unfolding len_of
len_end g e = ap len_of e
