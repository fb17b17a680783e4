use Rattle.std.proofs.Common.{rules, ◌∙◌, eqb}
use Rattle.std.proofs.lemmas.Iterator.{YieldsList-from_slice}
use Rattle.std.proofs.lemmas.Iterator.Search.{any_from_yields_List}
use Rattle.offers.proofs.checks.Lists.{stands_any}
use Rattle.offers.proofs.checks.contains.Goals as goal

pub returns : goal.returns
returns c =
    any_from_yields_List (λ y. eqb y c.args.value) _ _ _ c.any.ensures.ran (YieldsList-from_slice c.args.list.now cc) (λ x b q k. search rules) ∙ stands_any _ _
