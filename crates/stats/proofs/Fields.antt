-- A field that a call makes of two keys: the call is handed their bits, and what it gives, if it is a key, is kept as bits. Keys are read back from their bits.
use mathlib.Core.Path.{◌≡◌, ap₂, ◌∙◌}
use lib.IntN.{ℤ}
use mir.Syntax.{w64}
use mir.Val.{to_z, of_z}
use Rattle.format.specs.Keys.{Key}
use Rattle.number.proofs.Signed.{held}

-- what the call gives
pub result-of : {A : Type 0} (f : ℤ → ℤ → A) (a b : ℤ) {r : A} → Key a → Key b → r ≡ f (to_z w64 (of_z w64 a)) (to_z w64 (of_z w64 b)) → r ≡ f a b
result-of f a b g h e = e ∙ ap₂ f (held a g) (held b h)

-- a key that it gives, as it is kept
pub field_of : (f : ℤ → ℤ → ℤ) (a b : ℤ) {r : ℤ} → Key a → Key b → r ≡ f (to_z w64 (of_z w64 a)) (to_z w64 (of_z w64 b)) → Key r → to_z w64 (of_z w64 r) ≡ f a b
field_of f a b {r} g h e k = held r k ∙ result-of f a b g h e
