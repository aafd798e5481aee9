-- An array that is made of the seven elements of another, in the order of the ids.
use mathlib.Core.Path.{◌≡◌, refl, sym, ◌∙◌}
use mathlib.Core.List.{List, [], ◌∷◌, map}
use Prim.Native.Nat.{◌-◌}
use native.Mathlib.Omega.{arith}
use lib.ListN.{length, get_or}
use denote.Param.Members.{Called, Mut}
use Rattle.std.specs.Array.{IsMapOf}
use Rattle.std.proofs.lemmas.List.{ext_get_or, get_or-map, length-map}
use Rattle.format.specs.Encodings.{id_of, encodings}

in-order : {A B : Type 0} (h : A → B) (d : A) (xs : List A) → length xs ≡ 7 → map h xs ≡ map (λ e. h (get_or xs (id_of e - 1) d)) encodings
unfolding encodings
in-order h d [] n = absurd (omega arith)
in-order h d (a ∷ []) n = absurd (omega arith)
in-order h d (a ∷ b ∷ []) n = absurd (omega arith)
in-order h d (a ∷ b ∷ c ∷ []) n = absurd (omega arith)
in-order h d (a ∷ b ∷ c ∷ e ∷ []) n = absurd (omega arith)
in-order h d (a ∷ b ∷ c ∷ e ∷ f ∷ []) n = absurd (omega arith)
in-order h d (a ∷ b ∷ c ∷ e ∷ f ∷ g ∷ []) n = absurd (omega arith)
in-order h d (a ∷ b ∷ c ∷ e ∷ f ∷ g ∷ i ∷ []) n = refl
in-order h d (a ∷ b ∷ c ∷ e ∷ f ∷ g ∷ i ∷ j ∷ l) n = absurd (omega arith)

-- where each call gives h of its argument
pub mapped : {F A B : Type 0} (g : Mut F (A × Unit {0}) B) {s : F} (h : A → B) (d : A) {xs : List A} {ys : List B} → length xs ≡ 7 → IsMapOf g s xs ys 7
    → ((p q : F) (x : A) (y : B) → Called g p (x, tt) y q → y ≡ h x) → ys ≡ map (λ e. h (get_or xs (id_of e - 1) d)) encodings
mapped g h d {xs} {ys} n m called =
    ext_get_or (h d) ys (map h xs) (m.long ∙ sym (length-map xs h ∙ n)) (λ i l.
    let r = m.at i d (h d) (omega (arith, m.long)) in
    called r.0 r.1 _ _ r.2 ∙ sym (get_or-map h xs i d (h d) (omega (arith, m.long))))
    ∙ in-order h d xs n
