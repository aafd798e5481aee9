-- The total's varint, and then the runs.
use Rattle.runs.proofs.Puts.{total_some, runs_room, body_stored}
use Rattle.runs.proofs.writing.store.Goals as goal

pub unwrap-from-requires : goal.unwrap-from-requires
unwrap-from-requires c =
    let p = c.put_uvarint.ensures in
    total_some _ _ _ c.requires.1 c.requires.0 (p.value, p.out_after)

pub store_runs-requires : goal.store_runs-requires
store_runs-requires c =
    let p = c.put_uvarint.ensures in
    runs_room _ _ _ c.requires.1 c.requires.0 (p.value, p.out_after) c.unwrap-from.ensures

pub returns : goal.returns
returns c =
    let p = c.put_uvarint.ensures in
    let q = c.store_runs.ensures in
    let e = body_stored _ _ _ c.requires.1 c.requires.0 (p.value, p.out_after) c.unwrap-from.ensures (q.value, q.out_after) in
    record { value = e.0; out_after = e.1 }
