-- Making room for a key: the values from the last down to the key's place go up by one. When those above i have gone up, the list is its first i values, the one at i,
-- which stands twice, and then the values from i on (`shifted`); to store the value below i at i is the next turn.
use mathlib.Core.Path.{◌≡◌, refl, sym, ap, ◌∙◌}
use mathlib.Core.List.{List, [], ◌∷◌, ◌++◌, append_assoc}
use Prim.Native.Nat.{ℕ, zero, suc, ◌-◌, ◌≤◌, ◌<◌}
use native.Mathlib.Omega.{arith}
use lib.IntN.{ℤ, pos}
use lib.ListN.{length, get_or, take, drop, set, length-set}
use lib.Seq.{slice, slice-cons, slice_empty, set_at, take-suc, length-take-le, split_at, get_or_at}

-- the key in its place, and what stood from there to `held` one place up
abbrev pub opened : List ℤ → ℕ → ℕ → ℤ → List ℤ
opened s at held key = take at s ++ (key ∷ (slice at held s ++ drop (suc held) s))

-- the values from i to `held` are one place up
unfoldable pub shifted : List ℤ → ℕ → ℕ → List ℤ
shifted s i held = opened s i held (get_or s i (pos 0))

pub record Shifting (old : List ℤ) (at held : ℕ) (s : List ℤ) (i : ℕ) : Type 0 where
  pub above : at ≤ i
  pub below : i ≤ held
  pub long : length s ≡ length old
  pub are : s ≡ shifted old i held

module _ (old : List ℤ) (held : ℕ) (room : held < length old) where
  -- a turn, from i + 1 to i: what it reads, and what it stores
  module _ (i : ℕ) (h : i < held) where
    abbrev rest : List ℤ
    rest = slice (suc i) held old ++ drop (suc held) old

    abbrev value : ℤ
    value = get_or old i (pos 0)

    split : take (suc i) old ≡ take i old ++ (value ∷ [])
    split = take-suc old i (pos 0) (omega arith)

    read : get_or (shifted old (suc i) held) i (pos 0) ≡ value
    unfolding shifted
    read =
        ap (λ (l : List ℤ). get_or l i (pos 0)) (ap (λ (l : List ℤ). l ++ (get_or old (suc i) (pos 0) ∷ rest)) split ∙ append_assoc (take i old) (value ∷ []) (get_or old (suc i) (pos 0) ∷ rest))
        ∙ get_or_at (take i old) value (get_or old (suc i) (pos 0) ∷ rest) (pos 0) i (length-take-le i old (omega arith))

    stored : set (shifted old (suc i) held) (suc i) value ≡ shifted old i held
    unfolding shifted
    stored =
        set_at (take (suc i) old) (get_or old (suc i) (pos 0)) rest value (suc i) (length-take-le (suc i) old (omega arith))
        ∙ ap (λ (l : List ℤ). l ++ (value ∷ rest)) split
        ∙ append_assoc (take i old) (value ∷ []) (value ∷ rest)
        ∙ ap (λ (l : List ℤ). take i old ++ (value ∷ (l ++ drop (suc held) old))) (sym (slice-cons i held old (pos 0) h (omega arith)))

  module _ (at : ℕ) where
    pub shifting-none : at ≤ held → Shifting old at held old held
    unfolding shifted
    shifting-none h =
        record {
          above = h;
          below = omega arith;
          long = refl;
          are = split_at old held (pos 0) room ∙ ap (λ (l : List ℤ). take held old ++ (get_or old held (pos 0) ∷ (l ++ drop (suc held) old))) (sym (slice_empty held old));
        }

    pub shifting-more : {s : List ℤ} {i : ℕ} {v : ℤ} → Shifting old at held s i → at < i → v ≡ get_or s (i - 1) (pos 0) → Shifting old at held (set s i v) (i - 1)
    shifting-more {s} {i} {v} g h e = go i g h e
      where
        go : (i : ℕ) → Shifting old at held s i → at < i → v ≡ get_or s (i - 1) (pos 0) → Shifting old at held (set s i v) (i - 1)
        go zero g h e = absurd (omega arith)
        go (suc i) g h e =
            let less : suc i - 1 ≡ i = omega arith in
            let below : i < held = omega (arith, g.below) in
            let got : v ≡ value i below = e ∙ ap (λ (n : ℕ). get_or s n (pos 0)) less ∙ ap (λ (l : List ℤ). get_or l i (pos 0)) g.are ∙ read i below in
            record {
              above = omega arith;
              below = omega arith;
              long = simp length-set g.long;
              are =
                  ap (λ (x : ℤ). set s (suc i) x) got
                  ∙ ap (λ (l : List ℤ). set l (suc i) (value i below)) g.are
                  ∙ stored i below
                  ∙ ap (λ (n : ℕ). shifted old n held) (sym less);
            }

    -- and last the key
    pub shifting-done : {s : List ℤ} {i : ℕ} {v key : ℤ} → Shifting old at held s i → i ≤ at → v ≡ key → set s at v ≡ opened old at held key
    unfolding shifted
    shifting-done {s} {i} {v} {key} g h e =
        let here : i ≡ at = omega (arith, g.above) in
        ap (λ (x : ℤ). set s at x) e
        ∙ ap (λ (l : List ℤ). set l at key) (g.are ∙ ap (λ (n : ℕ). shifted old n held) here)
        ∙ set_at (take at old) (get_or old at (pos 0)) (slice at held old ++ drop (suc held) old) key at (length-take-le at old (omega (arith, g.below)))
