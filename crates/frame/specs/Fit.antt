-- What is found of a column before it is written: its least value, and the width of the largest difference from it.
use Rattle.std.specs.Prelude.{◌≡◌, List, map, ℤ}
use Rattle.format.specs.Keys.{gap}
use Rattle.format.specs.Width.{width}
use Rattle.format.specs.Folds.{least, largest}
use Rattle.frame.specs.declared.writing.Fit.{Fit}

pub record Fitted (column : List ℤ) (r : Fit) : Type 0 where
  pub base : r.least ≡ least column
  pub widest : r.width.bits ≡ width (largest (map (gap (least column)) column))
