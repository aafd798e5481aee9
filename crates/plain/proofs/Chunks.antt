-- A body that was passed lies inside the chunk.
use mathlib.Core.List.{List}
use Prim.Native.Nat.{ℕ, ◌+◌, ◌-◌, ◌*◌, ◌≤◌}
use native.Mathlib.Omega.{arith}
use lib.Dec.{leb}
use lib.ListN.{length}
use borrow.Author.Tests.{leb-true}
use Rattle.format.specs.Outcome.{check}
use Rattle.format.specs.Chunk.{validate_body}
use Rattle.format.specs.Plain.{validate_plain}
use Rattle.format.specs.declared.Header.{Header}
use Rattle.format.specs.declared.encoding.Encoding.TheVariants.{Plain}
use Rattle.format.proofs.Codecs.Outcome.{both-passed, check-passed}
use Rattle.codec.specs.Valid.{Valid}

pub body_inside : {s : List ℕ} {h : Header} → Valid Plain s h → h.start + 8 * h.count ≤ length s
unfolding validate_body validate_plain
body_inside {s} {h} v =
    both-passed (check (leb (8 * h.count) (length s - h.start)) 9 h.start) _ v.passed λ _ asked _.
    omega (arith, v.within, leb-true (8 * h.count) (length s - h.start) (check-passed _ 9 h.start asked))
