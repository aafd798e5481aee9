-- THE THIRD DEMAND, of the code: where what it names is lent, the answers and the buffers that Trip defines are those that it claims. Planning passes all of
-- its questions; the chunk has at most the estimated bytes, so the output has room for it, and the buffer has room for the column. What is claimed of the plan
-- and of the lengths is the demand as proved of the definitions (`third-one-scratch`).
use mathlib.Core.Path.{◌≡◌, ap}
use mathlib.Core.List.{List}
use Prim.Native.Nat.{ℕ, ◌≤◌}
use native.Mathlib.Nat.{le_trans}
use lib.IntN.{ℤ}
use lib.ListN.{length}
use borrow.Author.Tests.{le-leb}
use Rattle.format.specs.Outcome.{ok}
use Rattle.format.specs.Keys.{Keys}
use Rattle.format.specs.Plan.{PlanAnswer}
use Rattle.format.proofs.Plan.Checks.{take-stored}
use Rattle.format.proofs.Third.Scratch.{third-one-scratch}
use Rattle.round_trip.specs.Claim.{Lent, Claim}
use Rattle.round_trip.specs.Trip.{fitting, planned_chunk, Answers, write_trip, read_trip, trip_of}
use Rattle.round_trip.proofs.Ends.{Ends, plan-accepted}

-- what has room fits
fits {ℓ} : {A : Type ℓ} (front : List A) (room : ℕ) → length front ≤ room → fitting front room ≡ ok front
unfolding fitting
fits front room h = rw (le-leb (length front) room h)

-- however the trip ended
pub claimed :
    {level : ℕ} {column scratch : List ℤ} {output : List ℕ} {buffer : List ℤ}
    {trip : Answers} {scratch_after : List ℤ} {output-after : List ℕ} {buffer-after : List ℤ}
    → Keys column → Ends level column scratch output buffer trip scratch_after output-after buffer-after
    → Lent column level scratch output buffer → Claim column level scratch output buffer trip output-after buffer-after
unfolding trip_of write_trip read_trip
claimed {level} {column} {scratch} {output} {buffer} keys ends lent =
    let demand = third-one-scratch column keys lent.size level lent.level-most scratch lent.scratch-room output lent.output-room
    buffer lent.buffer-room in
    let passed = (plan-accepted level column (length scratch) (ap (λ (p : PlanAnswer). p.answer) demand.planned)).0 in
    let chunk = fits (planned_chunk level column) (length output) (le_trans demand.at_most lent.output-room) in
    let whole = fits column (length buffer) lent.buffer-room in
    record {
      planned = rw ends.trip-is demand.planned;
      written = rw (ends.trip-is, demand.planned, passed, chunk);
      read = rw (ends.trip-is, passed, chunk, whole);
      chunk = rw (ends.trip-is, demand.planned, ends.output-is, passed, chunk) (take-stored (planned_chunk level column) output);
      back = rw (ends.buffer-is, passed, chunk, whole) (take-stored column buffer);
      demand = rw (ends.trip-is, demand.planned) demand;
    }
