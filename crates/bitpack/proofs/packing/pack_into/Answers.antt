-- The loop keeps the packer's state, with either branch; the tail ends it.
use mathlib.Core.Path.{◌≡◌}
use Prim.Native.Nat.{◌/◌, ◌+◌, ◌%◌, ◌^◌, ◌≤◌}
use native.Mathlib.Omega.{arith}
use lib.ListN.{length, get_or}
use lib.Bits.{bit_and}
use Rattle.bitpack.proofs.Fields.{masked}
use Rattle.bitpack.proofs.Packer.{start, keep, store, word_room, whole-len, finish}
use Rattle.bitpack.proofs.packing.pack_into.Goals.{After-loop-value, In-loop-value, then-bits-w-lt64, else-bits-w-lt64}
use Rattle.bitpack.proofs.packing.pack_into.Goals as goal

-- the value of a turn is cut to the width
value : (c : In-loop-value)
    → let v = get_or c.args.vs.now c.loop-value.value-index 0 in
    bit_and v c.mask-m.result ≡ v % 2 ^ c.args.width.bits
value c = let a = c.args in masked (get_or a.vs.now c.loop-value.value-index 0) a.width.bits c.mask-m.ensures

-- there is room for a word where it is full
room : (c : In-loop-value) → 64 ≤ c.loop-value.bits + c.args.width.bits → c.loop-value.p + 8 ≤ length c.args.out.now
room c full =
    word_room c.loop-value.invariant (value c) (omega arith) full c.requires

-- the loop ends at the last value
ended : (c : After-loop-value) → c.loop-value.value-index ≡ length c.args.vs.now
ended c = omega arith

pub loop-value-init : goal.loop-value-init
loop-value-init c = let a = c.args in start a.width.bits a.vs.now a.out.now

pub store-requires : goal.store-requires
store-requires c = omega (arith, room (goal.at.store-requires c).In-loop-value c.if-bits-w-lt64.false, c.loop-value.invariant.same)

pub loop-value-preserved : goal.loop-value-preserved
loop-value-preserved c =
    let pre = c.requires in
    let cut = value (goal.at.loop-value-preserved c).In-loop-value in
    elim c.if-bits-w-lt64.branch [
      | then-bits-w-lt64 w ↦ rw (w.out-is, w.acc-is, w.bits-is, w.p-is) (keep c.loop-value.invariant cut (omega arith) w.if-bits-w-lt64.true)
      | else-bits-w-lt64 w ↦ rw (w.out-is, w.acc-is, w.bits-is, w.p-is)
          (store c.loop-value.invariant cut (omega arith) w.if-bits-w-lt64.false pre c.args.width.narrow w.store.ensures)
    ]

pub put_bytes-requires : goal.put_bytes-requires
put_bytes-requires c =
    let st = c.loop-value.invariant in
    omega (arith, whole-len st (ended (goal.at.put_bytes-requires c).After-loop-value), c.requires, st.same)

pub returns : goal.returns
returns c =
    let rounded : c.div_ceil.result ≡ (c.loop-value.bits + 7) / 8 = omega (arith, c.div_ceil.ensures) in
    finish c.loop-value.invariant (ended (goal.at.returns c).After-loop-value) c.requires (rw rounded at c.put_bytes.ensures)
