-- That values rise has one proof, so a struct may keep it.
use Rattle.std.specs.Prelude.{List, [], ◌∷◌, ℤ}
use Rattle.std.specs.Coded.{×_prop, Unit-prop}
use Rattle.std.proofs.Math.Bool.{Bool-set}
use Rattle.format.specs.Distinct.{Under, Rising}

under-prop : (v : ℤ) (xs : List ℤ) → IsProp (Under v xs)
under-prop v [] = Unit-prop
under-prop v (x ∷ xs) = Bool-set _ _

pub rising-prop : (xs : List ℤ) → IsProp (Rising xs)
rising-prop [] = Unit-prop
rising-prop (x ∷ xs) = ×_prop (under-prop x xs) (rising-prop xs)
