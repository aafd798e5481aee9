-- When the values of what is left of the block, and of whatever comes later, are stored from here, all are stored from `from` on.
use mathlib.Core.Path.{◌≡◌, refl, sym, ap, ◌∙◌}
use mathlib.Core.List.{List, ◌∷◌, ◌++◌}
use Prim.Native.Nat.{ℕ, ◌+◌}
use native.Mathlib.Nat.{add-zero}
use native.Mathlib.Numerals.{add-one}
use native.Mathlib.Omega.{arith}
use lib.IntN.{pos}
use lib.ListN.{length, get_or, drop, drop_of_length-le}
use lib.Seq.{sets, drop-cons}
use borrow.Author.Rules.{rules}
use Rattle.number.proofs.Signed.{held}
use Rattle.places.proofs.Decoding.{value-stored}
use Rattle.places.proofs.unpacked.put_values.Goals as goal

pub loop-j-init : goal.loop-j-init
loop-j-init g c later = rw (add-zero c.args.from) refl

pub loop-j-preserved : goal.loop-j-preserved
loop-j-preserved g c later =
    let l = c.loop-j in
    let block = c.args.block.now in
    let at = c.args.from + l.j in
    let rest = drop (l.j + 1) block ++ later in
    let values = g.D.Decoding.values in
    let one = rw (held (get_or l.column at (pos 0)) (search rules), ← held c.value.result c.value.type_inv) at (c.value.ensures rest (drop (at + 1) l.column)) in
    let left : get_or block l.j 0 ∷ drop (l.j + 1) block ≡ drop l.j block = rw (add-one l.j) (sym (drop-cons block l.j 0 c.loop-j-test.true)) in
    let next : at + 1 ≡ c.args.from + (l.j + 1) = omega arith in
    rw next at (value-stored values l.decoding c.value.new.self rest l.column at (get_or block l.j 0) _ (omega (arith, c.loop-j-test.true, c.requires, l.auto.column)) one)
    ∙ ap (λ (codes : List ℕ). sets l.column at (values l.decoding (codes ++ later) (drop at l.column))) left
    ∙ l.invariant later

pub returns : goal.returns
returns g c later =
    let l = c.loop-j in
    let all : l.j ≡ length c.args.block.now = omega (arith, c.loop-j-test.false, l.auto.j-end) in
    rw (all, drop_of_length-le c.args.block.now {i = length c.args.block.now} (omega arith)) at (l.invariant later)
