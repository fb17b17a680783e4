use Rattle.std.proofs.Common.{rules, ◌∙◌, ◌||◌, eqb}
use Rattle.std.proofs.lemmas.Iterator.{YieldsList-from_slice}
use Rattle.std.proofs.lemmas.Iterator.Search.{any_from_yields_List}
use Rattle.labels.proofs.syntax.Counts.{either_stands}
use Rattle.labels.proofs.syntax.has_separator.Goals as goal

pub returns : goal.returns
returns c =
    any_from_yields_List (λ x. eqb x 32 || eqb x 44) _ _ _ c.any.ensures.ran (YieldsList-from_slice c.args.text.now cc) (λ x b q k. search rules)
    ∙ either_stands 32 44 c.args.text.now
