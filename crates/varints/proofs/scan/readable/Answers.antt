-- The bytes scanned are a part of the chunk that starts at `start`.
use Prim.Native.Nat.{◌-◌}
use Rattle.varints.proofs.Scanning.{scanned}
use Rattle.varints.proofs.scan.readable.Goals as goal

pub returns : goal.returns
returns c e =
    let body = c.args.body in
    let start = body.header.start in
    scanned body.chunk.now start (c.min-end.result - start) body.header.count (c.rows.ensures e)
