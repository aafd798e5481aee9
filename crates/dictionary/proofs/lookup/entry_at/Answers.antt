-- After the first entry: any bits are a key, and added to a key they add as the number does, modulo 2^64.
use mir.Syntax.{w64}
use mathlib.Core.Path.{ap₂, ◌∙◌}
use mir.Facts.{to_z-of_z}
use borrow.Author.Tests.{ne_eqb}
use Rattle.format.specs.Keys.{wrapping_add}
use Rattle.dictionary.specs.Reading.{entry_at}
use Rattle.number.proofs.Signed.{add-bits}
use Rattle.dictionary.proofs.lookup.entry_at.Goals as goal

pub returns : goal.returns
unfolding entry_at
returns c =
    let gap = to_z-of_z {w = w64} (record { sfits = c.of_bits.type_inv }) ∙ c.of_bits.ensures in
    rw (ne_eqb _ _ c.if-i-eq0.false)
    (to_z-of_z {w = w64} (record { sfits = c.wrapping_add.type_inv })
    ∙ c.wrapping_add.ensures
    ∙ ap₂ wrapping_add (to_z-of_z c.ranges.last) gap
    ∙ add-bits c.args.last c.args.value c.ranges.value.fits)
