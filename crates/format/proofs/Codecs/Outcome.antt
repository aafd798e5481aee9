-- Lists of questions that were passed: what each question of a passed list found. A refusal is no pass, so at each step only one case is left.
use mathlib.Core.Path.{◌≡◌, refl}
use mathlib.Core.Bool.{Bool, true, false}
use Prim.Native.Nat.{ℕ}
use native.Mathlib.Omega.{arith}
use Rattle.format.specs.Outcome.{Outcome, refused, ok, check, ◌>>=◌}

-- a refusal finds nothing
refused_none {ℓ} : {A : Type ℓ} {number offset : ℕ} {a : A} → refused number offset ≡ ok a → ⊥
refused_none h = let z : ◌≡◌ {A = ℕ} 0 1 = cc in omega arith

-- where one list and then another was passed, the first found something, and the other was passed with it. (It is stated by what follows from that, `C`, so
-- that a proof names what each question found, as the definitions do.)
pub both-passed {ℓ κ μ} : {A : Type ℓ} {B : Type κ} {C : Type μ} (o : Outcome A) (further : A → Outcome B) {b : B}
    → (o >>= further) ≡ ok b → ((a : A) → o ≡ ok a → further a ≡ ok b → C) → C
both-passed (ok a) further h goal = goal a refl h
both-passed (refused number offset) further h goal = absurd (refused_none h)

-- where a question was passed, its answer was yes
pub check-passed : (t : Bool) (number offset : ℕ) {u : Unit {0}} → check t number offset ≡ ok u → t ≡ true
check-passed true number offset h = refl
check-passed false number offset h = absurd (refused_none h)
