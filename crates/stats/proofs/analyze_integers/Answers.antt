-- `analyze_integers` meets its contract, by what the answer of collecting tells.
use Rattle.stats.proofs.Answering.{told, analysed-exact, analysed-many, analysed-none}
use Rattle.stats.proofs.analyze_integers.Goals as goal

-- ---- the values were counted

pub stats_of-requires : goal.stats_of-requires
stats_of-requires c = rw c.in_ok-within.ensures (analysed-exact _ _ (told _ _ c.in-Ok.ensures.value)).known

pub returns-in-Ok-clause-value : goal.returns-in-Ok-clause-value
returns-in-Ok-clause-value c = rw (c.stats_of.ensures, c.in_ok-within.ensures) (analysed-exact _ _ (told _ _ c.in-Ok.ensures.value)).answer

-- ---- there are too many

pub stats_of-requires-in-Err : goal.stats_of-requires-in-Err
stats_of-requires-in-Err c = rw c.in_ok-within.ensures (analysed-many _ _ _ (told _ _ c.in-Err.ensures.value) c.if-eq.ensures).known

pub returns-in-Err-clause-value : goal.returns-in-Err-clause-value
returns-in-Err-clause-value c =
    rw (c.stats_of-in-Err.ensures, c.in_ok-within.ensures) (analysed-many _ _ _ (told _ _ c.in-Err.ensures.value) c.if-eq.ensures).answer

-- ---- another refusal

pub returns-in-Err-2-clause-value : goal.returns-in-Err-2-clause-value
returns-in-Err-2-clause-value c = analysed-none _ _ _ (told _ _ c.in-Err.ensures.value) c.if-eq.ensures
