-- `distinct_values` meets its contract: the part is the front of the scratch that collecting leaves, and none of it where collecting is refused.
use Rattle.std.proofs.Common.{arith}
use Rattle.stats.proofs.Answering.{part_taken, part_whole}
use Rattle.stats.proofs.distinct_values.Goals as goal

pub slice_bounds-result-end : goal.slice_bounds-result-end
slice_bounds-result-end c = part_whole _ _ c.collect.ensures.scratch_after c.collect.result c.collect.ensures.value (grind arith)

pub returns-clause-result_value : goal.returns-clause-result_value
returns-clause-result_value c = part_taken _ _ c.collect.ensures.scratch_after c.collect.result c.collect.ensures.value (grind arith)
