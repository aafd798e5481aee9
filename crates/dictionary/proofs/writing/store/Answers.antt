-- The total, the entries, the width byte and the codes, one after the other, are the body (`Body`).
use Prim.Native.Nat.{◌+◌, ◌≤◌, ◌<◌}
use native.Mathlib.Omega.{arith}
use lib.ListN.{length, set}
use Rattle.format.specs.Packing.{packed_len}
use Rattle.dictionary.proofs.Body.{total-there, entries-room, width_room, codes-room, body-stored}
use Rattle.dictionary.proofs.writing.store.Goals.{After-code_width-width}
use Rattle.dictionary.proofs.writing.store.Goals as goal

-- ---- where each part was stored

pub unwrap-first-requires : goal.unwrap-first-requires
unwrap-first-requires c =
    let first = c.put_uvarint.ensures in
    total-there _ c.args.column.values.now _ _ c.requires (first.value, first.out_after)

pub put_entries-at-requires : goal.put_entries-at-requires
put_entries-at-requires c =
    let first = c.put_uvarint.ensures in
    entries-room _ c.args.column.values.now _ _ c.requires (first.value, first.out_after) c.unwrap-first.ensures

there : (c : After-code_width-width) → c.put_entries-at.result < length c.put_entries-at.new.out
there c =
    let first = c.put_uvarint.ensures in
    let second = c.put_entries-at.ensures in
    width_room _ c.args.column.values.now _ _ c.requires (first.value, first.out_after) c.unwrap-first.ensures (second.value, second.out_after)

pub bounds-out-at : goal.bounds-out-at
bounds-out-at c = there (goal.at.bounds-out-at c).After-code_width-width

pub overflow_add-codes : goal.overflow_add-codes
overflow_add-codes c = omega (arith, there (goal.at.overflow_add-codes c).After-code_width-width)

-- ---- the codes

codes : (c : After-code_width-width) → let w = c.code_width-width.result.bits in
    c.put_entries-at.result + 1 + packed_len (length c.args.column.values.now) w ≤ length (set c.put_entries-at.new.out c.put_entries-at.result w)
codes c =
    let first = c.put_uvarint.ensures in
    let second = c.put_entries-at.ensures in
    codes-room _ c.args.column.values.now _ _ c.requires (first.value, first.out_after) c.unwrap-first.ensures (second.value, second.out_after) c.code_width-width.ensures

pub store_codes-requires-clause-room : goal.store_codes-requires-clause-room
store_codes-requires-clause-room c = codes (goal.at.store_codes-requires-clause-room c).After-code_width-width

pub store_codes-requires-else-column-le1024-clause-room : goal.store_codes-requires-else-column-le1024-clause-room
store_codes-requires-else-column-le1024-clause-room c = codes (goal.at.store_codes-requires-else-column-le1024-clause-room c).After-code_width-width

pub returns-then-column-le1024 : goal.returns-then-column-le1024
returns-then-column-le1024 c =
    let first = c.put_uvarint.ensures in
    let second = c.put_entries-at.ensures in
    body-stored _ _ _ _ c.requires (first.value, first.out_after) c.unwrap-first.ensures (second.value, second.out_after) c.code_width-width.ensures c.store_codes.ensures

pub returns-else-column-le1024 : goal.returns-else-column-le1024
returns-else-column-le1024 c =
    let first = c.put_uvarint.ensures in
    let second = c.put_entries-at.ensures in
    body-stored _ _ _ _ c.requires (first.value, first.out_after) c.unwrap-first.ensures (second.value, second.out_after) c.code_width-width.ensures
    c.store_codes-else-column-le1024.ensures
