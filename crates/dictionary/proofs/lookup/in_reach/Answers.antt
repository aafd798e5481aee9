-- From 64 bits on every number of entries is below the power; below 64 the bit that is shifted is not lost.
use native.Mathlib.Omega.{arith}
use lib.Pow.{pow_mono}
use Rattle.dictionary.proofs.lookup.in_reach.Goals as goal

pub returns-then-w-ge64 : goal.returns-then-w-ge64
returns-then-w-ge64 c = omega (arith, c.ranges.n.fits, pow_mono c.if-w-ge64.true)
