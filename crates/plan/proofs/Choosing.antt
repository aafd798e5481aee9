-- The walk over the seven candidates: what is left of it, from the best so far, gives the best of all. A turn takes one candidate off the list.
use Rattle.std.proofs.Common.{◌≡◌, ℕ, ◌+◌, ◌<◌, ◌≤◌, true, false, cond, get_or, drop, refl, add-one, drop-cons}
use Rattle.std.proofs.lemmas.List.{drop_all}
use Rattle.format.specs.Encodings.{encodings}
use Rattle.format.specs.Plan.{better, best_from, best}
use Rattle.format.specs.declared.encoding.Encoding.{Encoding}
use Rattle.format.specs.declared.encoding.Encoding.TheVariants.{Plain}
use Rattle.format.specs.declared.SizeEstimates.{SizeEstimates}

-- b is the best of the first i candidates: with those that are left, it gives the best of all
pub record BestSoFar (es : SizeEstimates) (b : Encoding) (i : ℕ) : Type 0 where
  pub whole : best_from es b (drop i encodings) ≡ best es

-- none yet: Plain, which is always available
pub best_none : (es : SizeEstimates) → BestSoFar es Plain 0
unfolding best
best_none es = record { whole = refl }

-- one more, whichever of the two it gives
pub best-more :
    (es : SizeEstimates) (b next : Encoding) (i : ℕ) → i < 7 → BestSoFar es b i
    → next ≡ cond (better es (get_or encodings i Plain) b) (get_or encodings i Plain) b → BestSoFar es next (i + 1)
unfolding best_from encodings
best-more es b next i h so_far e = record { whole = rw (e, add-one) (rw (drop-cons encodings i Plain h) at so_far.whole) }

module _ (es : SizeEstimates) (b : Encoding) (i : ℕ) where
  -- it is better, or not
  pub best_taken : i < 7 → BestSoFar es b i → better es (get_or encodings i Plain) b ≡ true → BestSoFar es (get_or encodings i Plain) (i + 1)
  best_taken h so_far e = best-more es b _ i h so_far (rw e refl)

  pub best_kept : i < 7 → BestSoFar es b i → better es (get_or encodings i Plain) b ≡ false → BestSoFar es b (i + 1)
  best_kept h so_far e = best-more es b b i h so_far (rw e refl)

  -- all seven
  pub best_done : 7 ≤ i → BestSoFar es b i → b ≡ best es
  unfolding best_from encodings
  best_done all so_far = rw (drop_all i encodings all) at so_far.whole
