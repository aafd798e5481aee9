-- The varint of the ZigZag.
use mathlib.Core.Path.{ap, ◌∙◌}
use mir.Facts.{to_z-of_z}
use Rattle.format.specs.Keys.{zigzag}
use Rattle.places.proofs.checked.put_varint.Goals as goal

pub returns : goal.returns
returns c =
    let value = c.zigzag_encode.ensures ∙ ap zigzag (to_z-of_z c.ranges.value) in
    rw value at c.put_uvarint.ensures
