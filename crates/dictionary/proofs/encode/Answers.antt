-- `encode` meets its contract: where collecting is refused that is the answer; else header and body are the chunk, and what is measured is its length.
use mathlib.Core.Path.{◌≡◌, refl, sym, ◌∙◌}
use Prim.Native.Nat.{◌+◌, ◌≤◌}
use native.Mathlib.Omega.{arith}
use lib.ListN.{length}
use borrow.Author.Rules.{rules}
use lib.Seq.{length-take-le}
use Rattle.std.proofs.lemmas.Grind.{common_steps}
use Rattle.format.specs.Outcome.{refused, ok}
use Rattle.format.specs.Refusals.{kind_number}
use Rattle.format.specs.Header.{header_len}
use Rattle.format.specs.Chunk.{body_of}
use Rattle.format.specs.declared.encoding.Encoding.TheVariants.{Dictionary}
use Rattle.format.proofs.Lengths.Limits.{header_len-most}
use Rattle.codec.proofs.Writing.{header-there, body-room, chunk-stored}
use Rattle.distinct.specs.Collect.{collect_outcome}
use Rattle.distinct.proofs.Answering.{Collected, collected-accepted}
use Rattle.dictionary.proofs.Chunk.{entries-rising, entries-stored, entries-length, entries-most, same-measured, entries-measured, write-refused, write-short, write_done}
use Rattle.dictionary.proofs.encode.Goals.{After-header_len, After-put_header, In_err-held, In_ok-held}
use Rattle.dictionary.proofs.encode.Goals as goal

-- ---- where the distinct values are refused

-- collecting refused that
told : (c : In_err-held) → collect_outcome c.args.column.now (length c.args.scratch.now) ≡ refused (kind_number c.in_err-held.field-0.0.kind) c.in_err-held.field-0.0.offset
told c = grind (arith, common_steps)

pub returns-in_err-held : goal.returns-in_err-held
returns-in_err-held c =
    let a = c.args in
    let w = write-refused a.column.now (length a.scratch.now) a.out.now (told (goal.at.returns-in_err-held c).In_err-held) in
    record { value = search (rules, w.0); scratch_after = c.collect.ensures.scratch_after; out_after = w.1 }

-- ---- where they are collected: n of them

-- collecting answered that
taken : (c : In_ok-held) → collect_outcome c.args.column.now (length c.args.scratch.now) ≡ ok c.in_ok-held.held
taken c = grind (arith, common_steps)

-- what the scratch holds then
held : (c : In_ok-held) → Collected c.args.column.now c.collect.new.scratch c.in_ok-held.held
held c = collected-accepted c.args.column.now c.args.scratch.now c.collect.ensures.scratch_after (taken c)

pub slice_bounds-entries-end : goal.slice_bounds-entries-end
slice_bounds-entries-end c = (held (goal.at.slice_bounds-entries-end c).In_ok-held).there

pub slice_bounds-entries-end-2 : goal.slice_bounds-entries-end-2
slice_bounds-entries-end-2 c = sym (length-take-le _ _ (held (goal.at.slice_bounds-entries-end-2 c).In_ok-held).there)

pub invariant_of-entries : goal.invariant_of-entries
invariant_of-entries c = record { rising = entries-rising (held c) }

-- ---- what is measured

pub unwrap-body-requires : goal.unwrap-body-requires
unwrap-body-requires c = rw (c.body_len.ensures, same-measured (held (goal.at.unwrap-body-requires c).In_ok-held)) refl

-- the length of the chunk
measured : (c : After-header_len)
    → let column = c.args.column.now in
    c.header_len.result + c.unwrap-body.result ≡ header_len (length column) + length (body_of Dictionary column)
measured c = entries-measured (held (goal.at.After-header_len c).In_ok-held) c.header_len.ensures (sym c.unwrap-body.ensures ∙ c.body_len.ensures)

pub overflow_add-needed : goal.overflow_add-needed
overflow_add-needed c =
    let h = held (goal.at.overflow_add-needed c).In_ok-held in
    omega (arith, c.header_len.ensures, header_len-most _ h.few, measured c, entries-length h, entries-most h, h.most, h.few)

pub returns-then-out-needed : goal.returns-then-out-needed
returns-then-out-needed c =
    let a = c.args in
    let w = write-short a.column.now (length a.scratch.now) a.out.now (taken (goal.at.returns-then-out-needed c).In_ok-held) (measured (goal.at.returns-then-out-needed c).After-header_len) c.if-out-needed.true in
    record { value = rw c.at.ensures w.0; scratch_after = c.collect.ensures.scratch_after; out_after = w.1 }

-- ---- what is stored

there : (c : After-put_header)
    → c.header_len.result + c.unwrap-body.result ≤ length c.args.out.now
there c = c.if-out-needed.false

pub unwrap-at-requires : goal.unwrap-at-requires
unwrap-at-requires c =
    let a = c.args in
    header-there Dictionary a.column.now a.out.now (measured (goal.at.unwrap-at-requires c).After-header_len) (there (goal.at.unwrap-at-requires c).After-put_header) (c.put_header.ensures.value, c.put_header.ensures.out_after)

pub invariant_of-store : goal.invariant_of-store
invariant_of-store c = record { few = (held (goal.at.invariant_of-store c).In_ok-held).few }

pub store-requires : goal.store-requires
store-requires c =
    let a = c.args in
    let room = body-room Dictionary a.column.now a.out.now (measured (goal.at.store-requires c).After-header_len) (there (goal.at.store-requires c).After-put_header) (c.put_header.ensures.value, c.put_header.ensures.out_after) c.unwrap-at.ensures in
    rw (entries-length (held (goal.at.store-requires c).In_ok-held)) room

pub returns : goal.returns
returns c =
    let a = c.args in
    let column = a.column.now in
    let output = a.out.now in
    let body = entries-stored (held (goal.at.returns c).In_ok-held) c.put_header.new.out c.unwrap-at.result c.store.ensures in
    let done = chunk-stored Dictionary column output (measured (goal.at.returns c).After-header_len) (there (goal.at.returns c).After-put_header) (c.put_header.ensures.value, c.put_header.ensures.out_after) c.unwrap-at.ensures body in
    let w = write_done column (length a.scratch.now) output (taken (goal.at.returns c).In_ok-held) (measured (goal.at.returns c).After-header_len) (there (goal.at.returns c).After-put_header) done in
    record { value = w.0; scratch_after = c.collect.ensures.scratch_after; out_after = w.1 }
