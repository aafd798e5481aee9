-- Question 8 bounds the count, and a varint that was read ends within the bytes.
use mathlib.Core.Path.{sym}
use native.Mathlib.Omega.{arith}
use Rattle.varint.proofs.Answers.{read-range}
use Rattle.codec.proofs.header.read_header.Goals as goal

pub returns-clause-found : goal.returns-clause-found
returns-clause-found c = (omega arith, (read-range _ 2 _ (sym c.in_ok-count.ensures)).1)
