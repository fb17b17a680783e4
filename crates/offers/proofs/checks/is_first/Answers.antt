use Rattle.std.proofs.Common.{◌∙◌}
use Rattle.offers.proofs.checks.Lists.{first_lent}
use Rattle.offers.proofs.checks.is_first.Goals as goal

pub returns : goal.returns
returns c = c.eq.ensures ∙ first_lent _ _ _ c.first.ensures.value
