-- The seven lengths, and whether each is there.
use Rattle.std.proofs.Common.{rules, tests}
use Rattle.std.specs.Option.{unwrap_or, is_some}
use Rattle.std.specs.Prelude.{None}
use Rattle.format.specs.Estimates.{length_in, available_in}
use Rattle.rows.specs.Rows.{flag}
use Rattle.rows.proofs.Mapped.{mapped}
use Rattle.rows.proofs.EstimatesRowFromSizeEstimates.from.Goals as goal

pub returns : goal.returns
unfolding length_in available_in
returns c =
    rw (
      mapped _ (λ l. unwrap_or l 0) None (search rules) c.map.ensures.items (λ p q x y k. search (rules, tests)),
      mapped _ (λ l. flag (is_some l)) None (search rules) c.map-2.ensures.items (λ p q x y k. search (rules, tests)),
    )
