-- A walk begins where the first entry's gap is its ZigZag.
use mathlib.Core.Path.{◌≡◌, refl, sym, ap, ◌∙◌}
use mathlib.Core.List.{List, [], ◌∷◌}
use Prim.Native.Nat.{ℕ, ◌+◌, ◌%◌, ◌^◌, ◌<◌}
use native.Mathlib.Omega.{arith}
use lib.IntN.{ℤ, pos, ◌-ℤ◌, -ℤ-+ℤ_cancel}
use lib.ListN.{length, get_or}
use Rattle.format.specs.Keys.{Key, residue, as_signed, gap, delta, zigzag}
use Rattle.format.proofs.Numbers.Keys.{residue-as_signed, residue-add, gap-lt, zigzag-lt}
use Rattle.entries.specs.Numbers.{numbers_after, numbers}

-- a gap and where it begins
gap-residue : (a b : ℤ) → residue b ≡ (gap a b + residue a) % 2 ^ 64
unfolding gap
gap-residue a b = ap residue (sym (-ℤ-+ℤ_cancel b a)) ∙ residue-add (b -ℤ a) a

-- n below b
gap-delta : (n : ℕ) (b : ℤ) → n < 2 ^ 64 → gap (delta (as_signed n) b) b ≡ n
unfolding delta
gap-delta n b h =
    let g = gap (as_signed n) b in
    let below = gap-lt (as_signed n) b in
    omega (
      arith,
      gap-residue (as_signed n) b,
      residue-as_signed n h,
      gap-residue (as_signed g) b,
      residue-as_signed g below,
      below,
      gap-lt (as_signed g) b,
    )

pub gap_before : (first : ℤ) → Key first → gap (delta (as_signed (zigzag first)) first) first ≡ zigzag first
gap_before first h = gap-delta (zigzag first) first (zigzag-lt first h)

-- so its first number is the ZigZag
pub begins_none : (entries : List ℤ) (last : ℤ) → length entries ≡ 0 → numbers_after last entries ≡ numbers entries
unfolding numbers_after numbers
begins_none [] last h = refl
begins_none (e ∷ es) last h = absurd (omega (arith, h))

pub begins_first : (entries : List ℤ) (first last : ℤ) → 0 < length entries → first ≡ get_or entries 0 (pos 0) → gap last first ≡ zigzag first → numbers_after last entries ≡ numbers entries
unfolding numbers_after numbers
begins_first [] first last h f e = absurd (omega (arith, h))
begins_first (x ∷ xs) first last h f e = ap (λ (n : ℕ). n ∷ numbers_after x xs) (rw f at e)
