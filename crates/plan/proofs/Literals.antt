-- The f64 literals of the code are the values of the definitions, bit for bit: 0.0 and 1.0 the whole numbers, and each gain the value that is nearest to its
-- hundredths. All by computing.
use Rattle.std.proofs.Common.{◌≡◌, false, refl}
use lib.Count.{count_trailing_zeros}
use lib.Ieee.{binary64, of_bits, of_fields, of_int, round, size, span, climb, units, odd}
use Rattle.format.specs.Plan.{as_float}

-- 0.0
pub zero : of_bits binary64 0 ≡ as_float 0
unfolding of_bits of_fields of_int round size span climb units odd count_trailing_zeros
zero = refl

-- 1.0
pub one : of_bits binary64 0x3ff0000000000000 ≡ as_float 1
unfolding of_bits of_fields of_int round size span climb units odd count_trailing_zeros
one = refl

-- 0.20
pub gain_20 : of_bits binary64 0x3fc999999999999a ≡ round binary64 false 20 100
unfolding of_bits of_fields round size span climb units odd count_trailing_zeros
gain_20 = refl

-- 0.05
pub gain_5 : of_bits binary64 0x3fa999999999999a ≡ round binary64 false 5 100
unfolding of_bits of_fields round size span climb units odd count_trailing_zeros
gain_5 = refl

-- 0.01
pub gain_1 : of_bits binary64 0x3f847ae147ae147b ≡ round binary64 false 1 100
unfolding of_bits of_fields round size span climb units odd count_trailing_zeros
gain_1 = refl
