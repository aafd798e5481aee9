-- The chain asks each code, as the definition does.
use mathlib.Core.Path.{◌∙◌}
use lib.Dec.{ltb}
use borrow.Author.Rules.{rules}
use borrow.Author.Tests.{tests}
use Rattle.std.proofs.lemmas.Iterator.{YieldsList-from_slice}
use Rattle.std.proofs.lemmas.Iterator.Search.{all_from_yields_List}
use Rattle.dictionary.proofs.Codes.{below_all}
use Rattle.dictionary.proofs.reading.block_below.Goals as goal

pub returns : goal.returns
returns c =
    let codes = c.args.codes.now in
    all_from_yields_List (λ x. ltb x c.args.entries) _ _ _ c.all.ensures.ran (YieldsList-from_slice codes cc) (λ x b q k. search (rules, tests))
    ∙ below_all c.args.entries codes
