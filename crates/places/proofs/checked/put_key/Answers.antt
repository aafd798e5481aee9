-- Where there is room, the key's eight bytes are stored.
use borrow.Author.Rules.{rules}
use mathlib.Core.Path.{ap, ◌∙◌}
use mir.Facts.{to_z-of_z}
use Rattle.format.specs.Keys.{residue}
use Rattle.places.proofs.Placing.{key-short, key-stored}
use Rattle.places.proofs.checked.put_key.Goals as goal

pub returns-then-out-at : goal.returns-then-out-at
returns-then-out-at c =
    let a = c.args in
    let both = key-short a.value a.at a.out.now (search rules) in
    record { value = both.0; out_after = both.1 }

pub returns : goal.returns
returns c =
    let a = c.args in
    let bits = c.bits_of.ensures ∙ ap residue (to_z-of_z c.ranges.value) in
    let both = key-stored a.value a.at a.out.now (search rules) (search rules) (rw bits at c.store.ensures) in
    record { value = both.0; out_after = both.1 }
