-- A body that was passed has no more runs than values, and as many values as are counted.
use mathlib.Core.Path.{◌≡◌, sym, ap, ◌∙◌}
use mathlib.Core.List.{List}
use lib.ListN.{length}
use Prim.Native.Nat.{ℕ, ◌≤◌}
use native.Mathlib.Omega.{arith}
use Rattle.format.specs.Chunk.{validate_body, body_values}
use Rattle.format.specs.Encodings.{max_chunk_elements}
use Rattle.format.specs.Runs.{run_values, run_length_values}
use Rattle.format.proofs.Codecs.Counts.{run_length-count}
use Rattle.varint.specs.Finding.{found_at}
use Rattle.varint.specs.declared.find.Found.{Found}
use Rattle.varint.proofs.Finding.{found_is}
use Rattle.codec.proofs.Reading.{stored-sets}
use Rattle.keys.proofs.Bodies.{all-run}
use Rattle.runs.proofs.Asks.{passed-read, passed-few}
use Rattle.runs.proofs.RunLengthCodec.fill.Goals as goal

pub unwrap-total-requires : goal.unwrap-total-requires
unfolding validate_body
unwrap-total-requires c =
    let h = c.args.body.header in
    rw c.find_any.ensures (passed-read c.args.body.chunk.now h.start h.count h.padded c.requires.passed.passed)

values-are : (s : List ℕ) (start : ℕ) {total : Found} → total ≡ found_at s start → run_length_values s start ≡ run_values s total.next total.value
unfolding run_length_values
values-are s start e = rw e

pub returns : goal.returns
unfolding validate_body body_values
returns c =
    let a = c.args in
    let s = a.body.chunk.now in
    let h = a.body.header in
    let v = c.requires.passed in
    let found = found_is s h.start (sym c.unwrap-total.ensures ∙ c.find_any.ensures) in
    let values = values-are s h.start found in
    let few : c.unwrap-total.result.value ≤ max_chunk_elements
    = omega (arith, v.few, passed-few s h.start h.count h.padded v.passed, ap (λ (t : Found). t.value) found) in
    let room : length (run_length_values s h.start) ≤ length a.column.now = rw (run_length-count s h.start h.count h.padded v.passed) c.requires.room in
    let filled = rw (all-run s _ _ a.column.now few (rw values at room)) at c.fill_keys.ensures in
    stored-sets v a.column.now c.requires.room (rw values filled)
