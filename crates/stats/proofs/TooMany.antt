-- The refusal of too many distinct values is the one with the number 23.
use mathlib.Core.Path.{◌≡◌}
use Rattle.format.specs.Refusals.{kind_number}
use Rattle.format.specs.declared.refusals.Kind.{Kind}
use Rattle.format.specs.declared.refusals.Kind.TheVariants.{TooManyDistinct}
use Rattle.format.proofs.Numbers.Kinds.{kind_number-one}

pub too_many-number : (kind : Kind) → kind_number kind ≡ 23 → kind ≡ TooManyDistinct
too_many-number kind e = kind_number-one kind TooManyDistinct e
