-- The literal 0.0 is the whole number 0, bit for bit, by computing; the estimates are a refused call's by their own default.
use mathlib.Core.Path.{refl}
use lib.Count.{count_trailing_zeros}
use lib.Ieee.{of_bits, of_fields, of_int, round, size, span, climb, units, odd}
use Rattle.format.specs.Plan.{refused_plan}
use Rattle.format.proofs.EncodingPlanDefault.default.Goals as goal

pub returns : goal.returns
unfolding refused_plan of_bits of_fields of_int round size span climb units odd count_trailing_zeros
returns c = rw c.default.ensures refl
