-- What settles a body settles a reading of it; and a packed body that was passed lies inside the chunk.
use mathlib.Core.Path.{◌≡◌, ap}
use mathlib.Core.Bool.{Bool}
use mathlib.Core.List.{List}
use Prim.Native.Nat.{ℕ, ◌+◌, ◌-◌, ◌≤◌}
use native.Mathlib.Omega.{arith}
use lib.Dec.{leb, ltb}
use lib.ListN.{length, get_or}
use borrow.Author.Tests.{leb-true, ltb-true}
use Rattle.format.specs.Outcome.{Outcome, ok, check}
use Rattle.format.specs.Encodings.{max_chunk_elements}
use Rattle.format.specs.Packing.{packed_len, width_at, packed_end}
use Rattle.format.specs.Parts.{settled}
use Rattle.format.specs.declared.Extent.{Extent}
use Rattle.format.proofs.Codecs.Outcome.{both-passed, check-passed}
use Rattle.places.specs.Packed.{Inside}

-- where the body's answers are the same, so are the reading's
pub settled_as : (strict : Bool) (s : List ℕ) (count room : ℕ) {answer asked : Outcome Extent} → answer ≡ asked → settled strict s count room answer ≡ settled strict s count room asked
settled_as strict s count room e = ap (settled strict s count room) e

-- a width byte and a packed body that were passed lie inside the chunk
pub passed-inside : {s : List ℕ} {at count w end : ℕ} → count ≤ max_chunk_elements → width_at s at ≡ ok w → packed_end s (at + 1) w count ≡ ok end → Inside s at count
unfolding width_at packed_end
passed-inside {s} {at} {count} {w} few byte rest =
    both-passed (check (ltb at (length s)) 10 at) _ byte λ _ there h₁.
    both-passed (check (leb w 64) 12 0) _ rest λ _ narrow h₂.
    both-passed (check (leb (packed_len count w) (length s - (at + 1))) 13 (length s - (at + 1))) _ h₂ λ _ long h₃.
    let same : get_or s at 0 ≡ w = cc in
    let inside = ltb-true at (length s) (check-passed _ 10 at there) in
    record {
      few = few;
      there = inside;
      width = rw same (leb-true w 64 (check-passed _ 12 0 narrow));
      bytes = rw same (omega (arith, inside, leb-true (packed_len count w) (length s - (at + 1)) (check-passed _ 13 _ long)));
    }
