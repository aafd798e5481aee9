-- A header has few bytes, and a body has fewer than 2^32.
use native.Mathlib.Omega.{arith}
use Rattle.format.proofs.Lengths.Limits.{header_len-most}
use Rattle.codec.proofs.chunk.lacking_for.Goals as goal

pub overflow_add-needed : goal.overflow_add-needed
overflow_add-needed c = omega (arith, c.header_len.ensures, header_len-most _ c.requires.few)
