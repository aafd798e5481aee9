-- The third demand where one scratch serves for planning and then for writing: no call changes the length of a scratch (Buffers), and the demand asks nothing
-- else of the one that writing gets.
use Prim.Native.Nat.{ℕ, ◌≤◌}
use mathlib.Core.List.{List}
use lib.IntN.{ℤ}
use lib.ListN.{length}
use Rattle.format.specs.Encodings.{max_chunk_elements}
use Rattle.format.specs.Distinct.{scratch_needed}
use Rattle.format.specs.Plan.{plan_of, plan_scratch}
use Rattle.format.specs.Keys.{Keys}
use Rattle.format.specs.ThirdDemand.{RoundTrip}
use Rattle.format.proofs.Third.Buffers.{length-plan_scratch}
use Rattle.format.proofs.Third.ThirdDemand.{third}

-- the third demand, with the scratch that planning left lent on to writing
pub third-one-scratch :
    (column : List ℤ) → Keys column → length column ≤ max_chunk_elements → (level : ℕ) → level ≤ 9
    → (lent : List ℤ) → scratch_needed column ≤ length lent
    → (output : List ℕ) → (plan_of level column).estimated_bytes ≤ length output
    → (buffer : List ℤ) → length column ≤ length buffer
    → RoundTrip column level lent (plan_of level column) (plan_scratch level column lent) output buffer
third-one-scratch column keys size level level-most lent lent-room output output-room buffer buffer-room =
    let room : scratch_needed column ≤ length (plan_scratch level column lent) = rw (length-plan_scratch column lent level) lent-room in
    third.holds column keys size level level-most lent lent-room (plan_scratch level column lent) (λ dictionary. room) output output-room buffer buffer-room
